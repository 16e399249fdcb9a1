-- What a step does to files, directories and nodes.
use Rattle.std.proofs.Common.{◌≡◌, ◌≢◌, ◌⊎◌, ◌<◌, ◌≤◌, ◌+◌, ◌-◌, ◌*◌, ◌/◌, ◌%◌, ℕ, zero, suc, Bool, true, false, refl, sym, ap, ◌∙◌, cond, arith}
use mathlib.Core.Logic.{inl, inr}
use Rattle.std.specs.Prelude.{not, ◌&&◌, ◌==◌, nat_lt, slice_index, IsTrue, Some, None}
use Rattle.std.proofs.lemmas.Bool.{cases_eq, cases_lt, cond-true, cond-false, eq-eqb, ne_eqb, not_from_false}
use Rattle.lemmas.proofs.Numbers.{not_zero}
use Rattle.layout.specs.declared.Geometry.{Geometry}
use Rattle.layout.specs.Places.{IsGeometry}
use Rattle.lemmas.specs.Sums.{put, some_below}
use Rattle.tree.specs.Names.{dot, dot_dot}
use Rattle.tree.specs.Tree.{File}
use Rattle.lemmas.proofs.Maps.{put-same, put-other, is_put}
use Rattle.volume.specs.Reading.{is_data_zone, is_inode}
use Rattle.volume.specs.Pieces.{Pieces}
use Rattle.volume.specs.Nodes.{page_zone, page_byte, file_byte, file_of, entry_inode, is_marked, nodes_of, is_directory_mode}
use Rattle.volume.specs.Places.{zone_at, Use}
use Rattle.volume.specs.Entries.{is_directory_inode, entry_count, name_at, target_at, is_field, is_name_field}
use Rattle.volume.specs.Holds.{ZonesAgree, IsSoundDirectory}
use Rattle.volume.proofs.Ranges.{data_some}
use Rattle.zone.specs.ZoneSteps.{Same, OnePlace, SameInodes, Links, Unlinks, with_page, without_page, node_from, LinkedPageIsHeld, LinkKeepsFiles, UnlinkedPageIsHole, UnlinkKeepsFiles, NodesChangeAt, NodesChangeWith}
use Rattle.zone.proofs.Change.{same_or_not}
use Rattle.zone.proofs.OnePlaces.{branch, both_same}
use Rattle.zone.proofs.Agree.{marked_on}

-- a file by its parts
pub same_file : (f h : File) → f.size ≡ h.size → f.byte ≡ h.byte → f.held ≡ h.held → f ≡ h
same_file f h a b c = λ i. record { size = a i; byte = b i; held = c i }

module _ (g : Geometry) (v w : Pieces) (same : SameInodes g v w) where
  -- the size and the mode stay
  pub size_kept : (m : ℕ) → (w.inodes m).size ≡ (v.inodes m).size
  size_kept m = ap (λ i. i.size) (same.attributes m)

  pub mode_kept : (m : ℕ) → (w.inodes m).mode ≡ (v.inodes m).mode
  mode_kept m = ap (λ i. i.mode) (same.attributes m)

  -- the bytes of a file by those of its pages
  pub bytes_kept : (m : ℕ) → ((q o : ℕ) → page_byte w (page_zone g w (w.inodes m) q) o ≡ page_byte v (page_zone g v (v.inodes m) q) o) → file_byte g w (w.inodes m) ≡ file_byte g v (v.inodes m)
  bytes_kept m pages = λ i p. cond (nat_lt p (size_kept m i)) (pages (p / g.block_size) (p % g.block_size) i) 0

-- a page whose zone's bytes stay, or that is a hole
pub page_kept : (v w : Pieces) (y o : ℕ) → (y ≢ 0 → w.zones y ≡ v.zones y) → page_byte w y o ≡ page_byte v y o
page_kept v w y o h = branch (y == 0) 0 (w.zones y o) 0 (v.zones y o) (λ _. refl) (λ f.
    ap (λ (r : ℕ → ℕ). r o) (h (λ e. let t = eq-eqb y 0 e in absurd (cc))))

module _ (g : Geometry) (ok : IsGeometry g) (v w : Pieces) (n l k z : ℕ) (s : Links g v w n l k z) where
  -- each page has the bytes that it had
  link_bytes : (m q o : ℕ) → IsTrue (is_marked g v m) → page_byte w (page_zone g w (w.inodes m) q) o ≡ page_byte v (page_zone g v (v.inodes m) q) o
  link_bytes m q o is = elim (same_or_not n l k m 0 q) [
    | inl e ↦
        let now : page_zone g w (w.inodes m) q ≡ z = (λ i. zone_at g w (w.inodes (e.0 i)) (e.1 i) (e.2 i)) ∙ s.place.here in
        let then_ : page_zone g v (v.inodes m) q ≡ 0 = (λ i. zone_at g v (v.inodes (e.0 i)) (e.1 i) (e.2 i)) ∙ s.was in
        ap (λ y. page_byte w y o) now ∙ ap (cond (z == 0) 0) (s.zeros o) ∙ both_same (z == 0) 0 ∙ sym (ap (λ y. page_byte v y o) then_)
    | inr d ↦
        ap (λ y. page_byte w y o) (s.place.others m 0 q is d) ∙ page_kept v w (page_zone g v (v.inodes m) q) o (s.pages m q is)
  ]

  pub link_other : (m : ℕ) → IsTrue (is_marked g v m) → ((m ≡ n) × (l ≡ 0) → ⊥) → file_of g w (w.inodes m) ≡ file_of g v (v.inodes m)
  link_other m is apart = same_file _ _ (size_kept g v w s.inodes m) (bytes_kept g v w s.inodes m (λ q o. link_bytes m q o is))
      (λ i p. not (s.place.others m 0 p is (λ e. apart (e.0, sym e.1)) i == 0))

-- a page
pub linked_page : LinkedPageIsHeld
linked_page g v w n k z ok s =
    same_file _ _ (size_kept g v w s.inodes n) (bytes_kept g v w s.inodes n (λ q o. link_bytes g ok v w n 0 k z s n q o s.marked))
    (is_put _ _ k true
    (ap (λ y. not (y == 0)) s.place.here ∙ not_from_false (z == 0) (ne_eqb z 0 (data_some g v ok z s.data_zone)))
    (λ p d. ap (λ y. not (y == 0)) (s.place.others n 0 p s.marked (λ e. d e.2))))

-- and all else
pub link_keeps_files : LinkKeepsFiles
link_keeps_files g v w n l k z m ok s is apart = link_other g ok v w n l k z s m is apart

module _ (g : Geometry) (v w : Pieces) (n l k z : ℕ) (agree : ZonesAgree g v) (s : Unlinks g v w n l k z) where
  -- each other page has the bytes that it had
  unlink_bytes : (m q o : ℕ) → IsTrue (is_marked g v m) → (Same n l k m 0 q → ⊥) → page_byte w (page_zone g w (w.inodes m) q) o ≡ page_byte v (page_zone g v (v.inodes m) q) o
  unlink_bytes m q o is d =
      ap (λ y. page_byte w y o) (s.place.others m 0 q is d) ∙ page_kept v w (page_zone g v (v.inodes m) q) o (λ some. s.pages m q is some (λ e.
      let here : Use g v z = record { inode = n; level = l; index = k; marked = s.marked; names = s.was } in
      let there : Use g v z = record { inode = m; level = 0; index = q; marked = is; names = e } in
      let r = agree.once z s.some there here in
      d (r.inode, r.level, r.index)))

  pub unlink_other : (m : ℕ) → IsTrue (is_marked g v m) → ((m ≡ n) × (l ≡ 0) → ⊥) → file_of g w (w.inodes m) ≡ file_of g v (v.inodes m)
  unlink_other m is apart =
      same_file _ _ (size_kept g v w s.inodes m) (bytes_kept g v w s.inodes m (λ q o. unlink_bytes m q o is (λ e. apart (e.0, sym e.1))))
      (λ i p. not (s.place.others m 0 p is (λ e. apart (e.0, sym e.1)) i == 0))

-- a page that is let go
pub unlinked_page : UnlinkedPageIsHole
unlinked_page g v w n k z ok agree s =
    same_file _ _ (size_kept g v w s.inodes n) (λ i p. each p i)
    (is_put _ _ k false
    (ap (λ y. not (y == 0)) s.place.here)
    (λ p d. ap (λ y. not (y == 0)) (s.place.others n 0 p s.marked (λ e. d e.2))))
  where
    each : (p : ℕ) → file_byte g w (w.inodes n) p ≡ cond (p / g.block_size == k) 0 (file_byte g v (v.inodes n) p)
    each p = elim (cases_eq (p / g.block_size) k) [
      | inl e ↦
          let hole : page_zone g w (w.inodes n) (p / g.block_size) ≡ 0 = ap (page_zone g w (w.inodes n)) e ∙ s.place.here in
          ap (λ y. cond (nat_lt p (w.inodes n).size) (page_byte w y (p % g.block_size)) 0) hole ∙ both_same (nat_lt p (w.inodes n).size) 0
          ∙ sym (cond-true (p / g.block_size == k) 0 (file_byte g v (v.inodes n) p) (eq-eqb _ k e))
      | inr d ↦
          (λ i. cond (nat_lt p (size_kept g v w s.inodes n i)) (unlink_bytes g v w n 0 k z agree s n (p / g.block_size) (p % g.block_size) s.marked (λ e. d e.2) i) 0)
          ∙ sym (cond-false (p / g.block_size == k) 0 (file_byte g v (v.inodes n) p) (ne_eqb _ k d))
    ]

pub unlink_keeps_files : UnlinkKeepsFiles
unlink_keeps_files g v w n l k z m ok agree s is apart = unlink_other g v w n l k z agree s m is apart

module _ (g : Geometry) (v w : Pieces) (m : ℕ) (e : file_of g w (w.inodes m) ≡ file_of g v (v.inodes m)) where
  -- the parts of the file
  abbrev size : (w.inodes m).size ≡ (v.inodes m).size
  size = ap (λ f. f.size) e

  abbrev bytes : file_byte g w (w.inodes m) ≡ file_byte g v (v.inodes m)
  bytes = ap (λ f. f.byte) e

  count_same : entry_count w m ≡ entry_count v m
  count_same = ap (λ x. x / 64) size

  name_same : (a : ℕ) → name_at g w m a ≡ name_at g v m a
  name_same a = λ i. Rattle.volume.specs.Nodes.entry_name (bytes i) a

  target_same : (a : ℕ) → target_at g w m a ≡ target_at g v m a
  target_same a = ap (λ f. entry_inode f a) bytes

  -- A directory is in order by its file alone.
  pub directory_kept : IsSoundDirectory g v m → IsSoundDirectory g w m
  directory_kept d = record {
    sized = ap (λ x. x % 64) size ∙ d.sized;
    two = let c = count_same in omega (arith, d.two);
    whole = λ p low. (λ none. not_zero (page_zone g w (w.inodes m) p)
        (ap (λ f. f.held p) e ∙ not_from_false (page_zone g v (v.inodes m) p == 0) (ne_eqb _ 0 (d.whole p (let s = size in omega (arith, ap (λ x. Rattle.tree.specs.Space.pages_of g x) size, low))))) none);
    dot_entry = (ap (λ (f : ℕ → ℕ). not (some_below (λ a. not (f (64 * 0 + 4 + a) == slice_index dot a)) 60)) bytes ∙ d.dot_entry.0, target_same 0 ∙ d.dot_entry.1);
    dot_dot_entry = ap (λ (f : ℕ → ℕ). not (some_below (λ a. not (f (64 * 1 + 4 + a) == slice_index dot_dot a)) 60)) bytes ∙ d.dot_dot_entry;
    used = λ a low none. d.used a (let c = count_same in omega arith) (sym (target_same a) ∙ none);
    names = λ a two low. (λ i. is_name_at (bytes i) a) ∙ d.names a two (let c = count_same in omega arith);
    distinct = λ a b less low same. d.distinct a b less (let c = count_same in omega arith) (sym (name_same a) ∙ same ∙ name_same b);
  }
    where
      is_name_at : (f : ℕ → ℕ) (a : ℕ) → Bool
      is_name_at f a = not (some_below (λ b. (f (64 * a + 4 + b) == 0) && not (f (64 * a + 4 + (b + 1)) == 0)) 59) && Rattle.tree.specs.Names.is_name (Rattle.volume.specs.Nodes.entry_name f a)

-- the node of an inode by its attributes and its file
pub nodes_change_at : NodesChangeAt
nodes_change_at g v w n same is files = is_put (nodes_of g v) (nodes_of g w) n (Some (node_from (v.inodes n) (file_of g w (w.inodes n))))
    ((λ i. cond (is_inode g n && same.marks i n) (Some (node_from (same.attributes n i) (file_of g w (w.inodes n)))) None) ∙ cond-true (is_marked g v n) _ None is)
    (λ m d. (λ i. cond (is_inode g m && same.marks i m) (Some (node_from (same.attributes m i) (file_of g w (w.inodes m)))) None)
    ∙ branch (is_marked g v m) _ _ _ _ (λ yes_. ap (λ f. Some (node_from (v.inodes m) f)) (files m yes_ d)) (λ _. refl))

-- and where the inode's attributes change
pub nodes_change_with : NodesChangeWith
nodes_change_with g v w n marks is attributes files = is_put (nodes_of g v) (nodes_of g w) n (Some (node_from (w.inodes n) (file_of g w (w.inodes n))))
    ((λ i. cond (is_inode g n && marks i n) (Some (node_from (w.inodes n) (file_of g w (w.inodes n)))) None) ∙ cond-true (is_marked g v n) _ None is)
    (λ m d. (λ i. cond (is_inode g m && marks i m) (Some (node_from (attributes m d i) (file_of g w (w.inodes m)))) None)
    ∙ branch (is_marked g v m) _ _ _ _ (λ yes_. ap (λ f. Some (node_from (v.inodes m) f)) (files m yes_ d)) (λ _. refl))
