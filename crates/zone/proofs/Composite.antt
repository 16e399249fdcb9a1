-- Whole attaches and detaches, from their steps.
use Rattle.std.proofs.Common.{◌≡◌, ◌≢◌, ◌⊎◌, ◌<◌, ◌≤◌, ◌+◌, ◌-◌, ℕ, zero, suc, List, Bool, true, false, refl, sym, ap, ◌∙◌, cond, arith}
use mathlib.Core.Logic.{inl, inr}
use Rattle.std.specs.Prelude.{not, ◌&&◌, ◌==◌, nat_lt, IsTrue, Some}
use Rattle.std.proofs.lemmas.Bool.{cases_eq, cond-true, cond-false, eq-eqb, ne_eqb, lt-ltb, le-ltb, not_from_false}
use Rattle.layout.specs.declared.Geometry.{Geometry}
use Rattle.layout.specs.Places.{IsGeometry}
use Rattle.lemmas.specs.Sums.{put, one_if}
use Rattle.tree.specs.Tree.{File}
use Rattle.tree.specs.Space.{numbers_in_zone, pages_of}
use Rattle.lemmas.proofs.Maps.{is_put}
use Rattle.volume.specs.declared.Inode.{Inode}
use Rattle.volume.specs.Pieces.{Pieces}
use Rattle.volume.specs.Nodes.{number, page_zone, file_of, is_marked, nodes_of}
use Rattle.volume.specs.Places.{zone_at, has_number}
use Rattle.volume.proofs.Volumes.{numbers_sized}
use Rattle.zone.specs.ZoneSteps.{Same, first_places, above, above_level, beside, Links, Unlinks, SameInodes, IsSoundBut, with_page, without_page, node_from, marked_in}
use Rattle.zone.specs.Missing.{missing}
use Rattle.zone.specs.Composite.{Attached, Detached, AttachedInner, AttachesInner, AttachedOuter, AttachesOuter, DetachesInner, DetachesOuter, DetachesOn, UnlinkedAbove, AttachedNodes, DetachedNodes}
use Rattle.zone.proofs.Agree.{marked_on}
use Rattle.zone.proofs.Full.{child, child_is, has_child}
use Rattle.zone.proofs.Files.{size_kept, linked_page, link_keeps_files, unlinked_page, unlink_keeps_files, nodes_change_at, same_file}
use Rattle.zone.proofs.Keeps.{weaker, full_again, link_keeps, unlink_keeps}
use Rattle.zone.proofs.Counts.{link_marks_one}

-- an inode with other zones
abbrev with_zones : Inode → List ℕ → Inode
with_zones i zs = record i { zones = zs }

-- inodes that stay twice
pub same_inodes : (g : Geometry) (v u w : Pieces) → SameInodes g v u → SameInodes g u w → SameInodes g v w
same_inodes g v u w a b = record {
  marks = b.marks ∙ a.marks;
  attributes = λ m. b.attributes m ∙ ap (λ i. with_zones i (w.inodes m).zones) (a.attributes m);
}

-- nothing changes
no_change : (g : Geometry) (v : Pieces) → SameInodes g v v
no_change g v = record { marks = refl; attributes = λ m. refl }

-- the rules at the place above, where a place is of the inode
abbrev inner_above : (g : Geometry) (v : Pieces) (n l k j : ℕ) → IsSoundBut g v n 0 j → IsSoundBut g v n (above_level l k) (above g l k)
inner_above g v n l k j b = weaker g v n (above_level l k) (above g l k) j b

-- how many are missing, where the place is of the inode
pub missing_inner : (g : Geometry) (v : Pieces) (n l k : ℕ) → l < 4 → k < first_places l → missing g v n (4 - l) l k ≡ one_if (zone_at g v (v.inodes n) l k == 0)
unfolding missing
missing_inner g v n l k low near =
    ap (λ t. missing g v n t l k) (let e : 4 - l ≡ suc (3 - l) = omega arith in e)
    ∙ ap (λ x. one_if (zone_at g v (v.inodes n) l k == 0) + x) (cond-true (nat_lt k (first_places l)) 0 _ (lt-ltb k _ near))
    ∙ (let e : one_if (zone_at g v (v.inodes n) l k == 0) + 0 ≡ one_if (zone_at g v (v.inodes n) l k == 0) = omega arith in e)

-- and where it is of a block
pub missing_outer : (g : Geometry) (v : Pieces) (n l k : ℕ) → l < 3 → first_places l ≤ k → missing g v n (4 - l) l k ≡ one_if (zone_at g v (v.inodes n) l k == 0) + missing g v n (4 - suc l) (suc l) (above g l k)
unfolding missing
missing_outer g v n l k low far =
    ap (λ t. missing g v n t l k) (let e : 4 - l ≡ suc (4 - suc l) = omega arith in e)
    ∙ ap (λ x. one_if (zone_at g v (v.inodes n) l k == 0) + x) (cond-false (nat_lt k (first_places l)) 0 _ (le-ltb k _ far))

-- a page that is held already
held_already : (g : Geometry) (v : Pieces) (n k : ℕ) → page_zone g v (v.inodes n) k ≢ 0 → file_of g v (v.inodes n) ≡ with_page (file_of g v (v.inodes n)) k true
held_already g v n k some = same_file _ _ refl refl (is_put _ _ k true (not_from_false _ (ne_eqb (page_zone g v (v.inodes n) k) 0 some)) (λ p d. refl))

-- the file, at a page or a block
at_page : (g : Geometry) (v : Pieces) (n l k : ℕ) (f : File) → (l ≡ 0 → f ≡ with_page (file_of g v (v.inodes n)) k true) → (l ≢ 0 → f ≡ file_of g v (v.inodes n))
    → f ≡ cond (l == 0) (with_page (file_of g v (v.inodes n)) k true) (file_of g v (v.inodes n))
at_page g v n l k f page block = elim (cases_eq l 0) [
  | inl e ↦ page e ∙ sym (cond-true (l == 0) _ _ (eq-eqb l 0 e))
  | inr d ↦ block d ∙ sym (cond-false (l == 0) _ _ (ne_eqb l 0 d))
]

-- a linked page
page_linked : (g : Geometry) (v w : Pieces) (n l k z : ℕ) → IsGeometry g → Links g v w n l k z → l ≡ 0 → file_of g w (w.inodes n) ≡ with_page (file_of g v (v.inodes n)) k true
page_linked g v w n zero k z ok s e = linked_page g v w n k z ok s
page_linked g v w n (suc l) k z ok s e = absurd (omega arith)

pub attached_inner : AttachedInner
attached_inner g v n l k j ok is low near b some = record {
  rules = weaker g v n l k j b;
  held = some;
  inodes = no_change g v;
  below = λ a i less. refl;
  files = λ m marked d. refl;
  file = at_page g v n l k _ (λ e. held_already g v n k (λ none. some (ap (λ x. zone_at g v (v.inodes n) x k) e ∙ none))) (λ d. refl);
  count = let a = missing_inner g v n l k low near in let none : one_if (zone_at g v (v.inodes n) l k == 0) ≡ 0 = ap one_if (ne_eqb _ 0 some) in omega arith;
}

pub attaches_inner : AttachesInner
attaches_inner g v w n l k j z ok near sized b s = record {
  rules = link_keeps g v w n l k z ok s sized (inner_above g v n l k j b);
  held = λ none. Rattle.volume.proofs.Ranges.data_some g v ok z s.data_zone (sym s.place.here ∙ none);
  inodes = s.inodes;
  below = λ a i less. s.place.others n a i s.marked (λ e. absurd (omega (arith, e.1)));
  files = λ m marked d. link_keeps_files g v w n l k z m ok s marked (λ e. d e.0);
  file = at_page g v n l k _ (page_linked g v w n l k z ok s) (λ d. link_keeps_files g v w n l k z n ok s s.marked (λ e. d e.1));
  count =
      let low = s.level in
      let a = missing_inner g v n l k low near in
      let one : one_if (zone_at g v (v.inodes n) l k == 0) ≡ 1 = ap one_if (eq-eqb _ 0 s.was) in
      let c = link_marks_one g v w n l k z s in
      omega arith;
}

-- the file before, below a block
file_before : (g : Geometry) (v u : Pieces) (n l k : ℕ) → Attached g v u n (suc l) k → file_of g u (u.inodes n) ≡ file_of g v (v.inodes n)
file_before g v u n l k h = h.file ∙ cond-false (suc l == 0) _ _ (ne_eqb (suc l) 0 (λ e. absurd (omega arith)))

pub attached_outer : AttachedOuter
attached_outer g v u n l k ok is low far h some =
    let sized = numbers_sized g ok in
    let within : beside g l k < numbers_in_zone g = omega arith in
    let again = full_again g u n (suc l) (above g l k) 0 h.rules (λ _ there. has_child g sized u n l (above g l k) (beside g l k) low within there (λ none. some (ap (zone_at g u (u.inodes n) l) (child_is g sized l k far) ∙ none))) in
    record {
      rules = weaker g u n l k 0 again;
      held = some;
      inodes = h.inodes;
      below = λ a i less. h.below a i (omega arith);
      files = h.files;
      file = at_page g v n l k _
          (λ e. let now = held_already g u n k (λ none. some (ap (λ x. zone_at g u (u.inodes n) x k) e ∙ none)) in
          now ∙ ap (λ f. with_page f k true) (file_before g v u n l (above g l k) h))
          (λ d. file_before g v u n l (above g l k) h);
      count =
          let a = missing_outer g v n l k low far in
          let none : one_if (zone_at g v (v.inodes n) l k == 0) ≡ 0 = ap one_if (ne_eqb _ 0 (λ e. some (h.below l k (omega arith) ∙ e))) in
          let c = h.count in
          omega arith;
    }

pub attaches_outer : AttachesOuter
attaches_outer g v u w n l k z ok is low far sized h s =
    let level : above_level l k ≡ suc l = cond-false (nat_lt k (first_places l)) 0 (suc l) (le-ltb k _ far) in
    record {
      rules = link_keeps g u w n l k z ok s
          (λ e. let wide : pages_of g (u.inodes n).size ≡ pages_of g (v.inodes n).size = ap (pages_of g) (size_kept g v u h.inodes n) in let c = sized e in omega arith)
          (at_level (above_level l k) level h.rules);
      held = λ none. Rattle.volume.proofs.Ranges.data_some g v ok z s.data_zone (sym s.place.here ∙ none);
      inodes = same_inodes g v u w h.inodes s.inodes;
      below = λ a i less. s.place.others n a i s.marked (λ e. absurd (omega (arith, e.1))) ∙ h.below a i (omega arith);
      files = λ m marked d. link_keeps_files g u w n l k z m ok s (marked_on g v u h.inodes m marked) (λ e. d e.0) ∙ h.files m marked d;
      file = at_page g v n l k _
          (λ e. page_linked g u w n l k z ok s e ∙ ap (λ f. with_page f k true) (file_before g v u n l (above g l k) h))
          (λ d. link_keeps_files g u w n l k z n ok s s.marked (λ e. d e.1) ∙ file_before g v u n l (above g l k) h);
      count =
          let a = missing_outer g v n l k low far in
          let one : one_if (zone_at g v (v.inodes n) l k == 0) ≡ 1 = ap one_if (eq-eqb _ 0 (sym (h.below l k (omega arith)) ∙ s.was)) in
          let c = h.count in
          let d = link_marks_one g u w n l k z s in
          omega arith;
    }
  where
    at_level : (a : ℕ) → a ≡ suc l → IsSoundBut g u n (suc l) (above g l k) → IsSoundBut g u n a (above g l k)
    at_level a e b = Rattle.std.proofs.Common.subst (λ x. IsSoundBut g u n x (above g l k)) (sym e) b

-- the file after, at a page or a block
without : (g : Geometry) (v : Pieces) (n l k : ℕ) (f : File) → (l ≡ 0 → f ≡ without_page g.block_size (file_of g v (v.inodes n)) k) → (l ≢ 0 → f ≡ file_of g v (v.inodes n))
    → f ≡ cond (l == 0) (without_page g.block_size (file_of g v (v.inodes n)) k) (file_of g v (v.inodes n))
without g v n l k f page block = elim (cases_eq l 0) [
  | inl e ↦ page e ∙ sym (cond-true (l == 0) _ _ (eq-eqb l 0 e))
  | inr d ↦ block d ∙ sym (cond-false (l == 0) _ _ (ne_eqb l 0 d))
]

page_unlinked : (g : Geometry) (v w : Pieces) (n l k z : ℕ) → IsGeometry g → IsSoundBut g v n l k → Unlinks g v w n l k z → l ≡ 0 → file_of g w (w.inodes n) ≡ without_page g.block_size (file_of g v (v.inodes n)) k
page_unlinked g v w n zero k z ok b s e = unlinked_page g v w n k z ok b.zones s
page_unlinked g v w n (suc l) k z ok b s e = absurd (omega arith)

-- one step, with the rules after it
step_up : (g : Geometry) (v w : Pieces) (n l k z : ℕ) → IsGeometry g → IsSoundBut g v n l k → Unlinks g v w n l k z → IsSoundBut g w n 0 k → Detached g v w n l k
step_up g v w n l k z ok b s rules = record {
  rules = rules;
  gone = s.place.here;
  inodes = s.inodes;
  below = λ a i less. s.place.others n a i s.marked (λ e. absurd (omega (arith, e.1)));
  files = λ m marked d. unlink_keeps_files g v w n l k z m ok b.zones s marked (λ e. d e.0);
  file = without g v n l k _ (page_unlinked g v w n l k z ok b s) (λ d. unlink_keeps_files g v w n l k z n ok b.zones s s.marked (λ e. d e.1));
}

-- the rules at another number that is the same
at : (g : Geometry) (u : Pieces) (n a b k : ℕ) → a ≡ b → IsSoundBut g u n a k → IsSoundBut g u n b k
at g u n a b k e = Rattle.std.proofs.Common.subst (λ x. IsSoundBut g u n x k) e

pub detaches_inner : DetachesInner
detaches_inner g v w n l k z ok near b s =
    let level : above_level l k ≡ 0 = cond-true (nat_lt k (first_places l)) 0 (suc l) (lt-ltb k _ near) in
    step_up g v w n l k z ok b s (weaker g w n 0 k (above g l k) (at g w n (above_level l k) 0 (above g l k) level (unlink_keeps g v w n l k z ok s b)))

pub unlinked_above : UnlinkedAbove
unlinked_above g v u n l k z ok far b s =
    let level : above_level l k ≡ suc l = cond-false (nat_lt k (first_places l)) 0 (suc l) (le-ltb k _ far) in
    at g u n (above_level l k) (suc l) (above g l k) level (unlink_keeps g v u n l k z ok s b)

pub detaches_outer : DetachesOuter
detaches_outer g v w n l k z ok far b s has =
    step_up g v w n l k z ok b s (full_again g w n (suc l) (above g l k) k (unlinked_above g v w n l k z ok far b s) (λ _ _. has))

pub detaches_on : DetachesOn
detaches_on g v u w n l k z ok b s h =
    let marked = marked_on g v u s.inodes in
    let same : file_of g w (w.inodes n) ≡ file_of g u (u.inodes n) = h.file ∙ cond-false (suc l == 0) _ _ (ne_eqb (suc l) 0 (λ e. absurd (omega arith))) in
    record {
      rules = weaker g w n 0 k (above g l k) h.rules;
      gone = h.below l k (omega arith) ∙ s.place.here;
      inodes = same_inodes g v u w s.inodes h.inodes;
      below = λ a i less. h.below a i (omega arith) ∙ s.place.others n a i s.marked (λ e. absurd (omega (arith, e.1)));
      files = λ m is d. h.files m (marked m is) d ∙ unlink_keeps_files g v u n l k z m ok b.zones s is (λ e. d e.0);
      file = without g v n l k _ (λ e. same ∙ page_unlinked g v u n l k z ok b s e) (λ d. same ∙ unlink_keeps_files g v u n l k z n ok b.zones s s.marked (λ e. d e.1));
    }

pub attached_nodes : AttachedNodes
attached_nodes g v w n p is h = nodes_change_at g v w n h.inodes is h.files ∙ ap (λ f. put (nodes_of g v) n (Some (node_from (v.inodes n) f))) h.file

pub detached_nodes : DetachedNodes
detached_nodes g v w n p is h = nodes_change_at g v w n h.inodes is h.files ∙ ap (λ f. put (nodes_of g v) n (Some (node_from (v.inodes n) f))) h.file
