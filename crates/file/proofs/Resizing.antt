-- An inode is stored with another size, or with other times.
use Rattle.std.proofs.Common.{◌≡◌, ◌≢◌, ◌<◌, ◌*◌, ◌/◌, ℕ, Bool, true, false, refl, sym, ap, subst, ◌∙◌, cond, arith}
use mathlib.Core.Logic.{inl, inr}
use Rattle.std.specs.Prelude.{IsTrue, nat_lt, ◌&&◌, ◌==◌, not}
use Rattle.std.proofs.lemmas.Bool.{cases_lt, cond-true, cond-false, lt-ltb, le-ltb, ne_eqb, not_from_false}
use Rattle.lemmas.proofs.Numbers.{not_zero}
use Rattle.layout.specs.declared.Geometry.{Geometry}
use Rattle.tree.specs.Tree.{File}
use Rattle.tree.specs.Changes.{file_after_resize}
use Rattle.tree.specs.Space.{pages_of}
use Rattle.lemmas.proofs.Maps.{put-same, put-other}
use Rattle.volume.specs.declared.Inode.{Inode}
use Rattle.volume.specs.Reading.{Disk, is_inode}
use Rattle.volume.specs.Pieces.{Pieces, pieces}
use Rattle.volume.specs.Nodes.{file_of, page_zone, is_mode}
use Rattle.block_store.specs.Volume.{Alters}
use Rattle.inode.specs.Table.{with_inode}
use Rattle.zone.specs.Raw.{Resizes}
use Rattle.zone.specs.Chunks.{resized}
use Rattle.zone.proofs.Stay.{resized_file, resize_keeps}
use Rattle.zone.proofs.Files.{same_file}
use Rattle.zone.specs.CutFiles.{MayDetach, LetGo, DetachesFrom, cut_at}
use Rattle.zone.proofs.ZoneInodes.{inode_is}
use Rattle.file.specs.PageChanges.{MayChange, BecomesFile, file_at, IsPadded, PadsRest, MayResize, Resized, SetsSize, Stamps, stamped}
use Rattle.file.proofs.Becoming.{becomes, becomes_again, may_change_after}
use Rattle.file.proofs.Rest.{wide}
use Rattle.file.proofs.Sizes.{begins, covered, page_begins}

-- a page that is held in one file is held in another that holds the same
pub still_held : (y z : ℕ) → not (y == 0) ≡ not (z == 0) → y ≢ 0 → z ≢ 0
still_held y z same some = not_zero z (sym same ∙ not_from_false (y == 0) (ne_eqb y 0 some))

-- An inode is stored whose zones are those of before.
module _ (g : Geometry) (u : Pieces) (n : ℕ) (i : Inode) (may : MayChange g u n) (zones : i.zones ≡ (u.inodes n).zones) (mode : IsTrue (is_mode i.mode))
    (inside : (p : ℕ) → page_zone g u (u.inodes n) p ≢ 0 → p < pages_of g i.size) where
  abbrev w : Pieces
  w = with_inode u n i

  its : w.inodes n ≡ i
  its = put-same u.inodes n i

  stored : Resizes g u w n
  stored = record {
    marked = may.marked;
    marks = refl;
    map = refl;
    zones = refl;
    others = λ m d. put-other u.inodes n i m d;
    slots = ap (λ (x : Inode). x.zones) its ∙ zones;
    mode = ap (λ (x : Inode). is_mode x.mode) its ∙ mode;
    inside = λ p some. let low = inside p some in let e : pages_of g (w.inodes n).size ≡ pages_of g i.size = ap (λ (x : Inode). pages_of g x.size) its in omega (arith, low, e);
  }

  pub stored_becomes : (j : Inode) (f : File) → i ≡ record j { size = f.size; zones = i.zones } → file_of g w (w.inodes n) ≡ f → BecomesFile g u w n j f
  stored_becomes j f attributes file = becomes g u w n may (resize_keeps g u w n 0 0 may.geometry stored may.rules) refl
      (λ m d. let e = put-other u.inodes n i m d in e ∙ sym (ap (λ (x : Inode). record (u.inodes m) { zones = x.zones }) e))
      (λ m is d. ap (file_of g u) (put-other u.inodes n i m d))
      j f (its ∙ attributes ∙ sym (ap (λ (x : Inode). record j { size = f.size; zones = x.zones }) its)) file

  -- where it is padded, its file is that of the other size
  pub stored_file : IsPadded g u n → file_of g w (w.inodes n) ≡ resized (file_at g u n) i.size
  stored_file padded = resized_file g u w n may.geometry stored padded ∙ ap (λ (x : Inode). resized (file_at g u n) x.size) its

-- the size
module _ (g : Geometry) (d x y f : Disk) (n size : ℕ) (i : Inode) (pads : PadsRest g n d x) (same : y ≡ x) (is : i ≡ (pieces g x).inodes n)
    (alters : Alters g (with_inode (pieces g y) n (record i { size = size })) y f) where
  abbrev v : Pieces
  v = pieces g d

  abbrev u : Pieces
  u = pieces g x

  abbrev j : Inode
  j = record (u.inodes n) { size = size }

  altered : pieces g f ≡ with_inode u n j
  altered = alters.pieces ∙ (λ t. with_inode (pieces g (same t)) n (record (is t) { size = size }))

  module _ (may : MayResize g v n size) where
    padded : BecomesFile g v u n (v.inodes n) (file_at g v n)
    padded = pads.becomes may.change

    now : MayChange g u n
    now = may_change_after g v u n (v.inodes n) (file_at g v n) may.change padded

    held : (p : ℕ) → page_zone g u (u.inodes n) p ≢ 0 → p < pages_of g size
    held p some = may.inside p (still_held (page_zone g u (u.inodes n) p) (page_zone g v (v.inodes n) p) (ap (λ (h : File). h.held p) padded.file) some)

    sized : BecomesFile g u (with_inode u n j) n (u.inodes n) (resized (file_at g u n) size)
    sized = stored_becomes g u n j now refl (now.rules.modes n now.marked) held (u.inodes n) (resized (file_at g u n) size) refl (stored_file g u n j now refl (now.rules.modes n now.marked) held (pads.padded may.change))

    became : BecomesFile g v (pieces g f) n (v.inodes n) (resized (file_at g v n) size)
    became = subst (λ (z : Pieces). BecomesFile g v z n (v.inodes n) (resized (file_at g v n) size)) (sym altered)
        (subst (λ (h : File). BecomesFile g v (with_inode u n j) n (v.inodes n) (resized h size)) padded.file
        (becomes_again g v u (with_inode u n j) n (v.inodes n) (file_at g v n) (resized (file_at g u n) size) may.change padded sized))

  pub resizes : Resized g n size d f
  resizes = record { head = λ b low. alters.head b low ∙ ap (λ (z : Disk). z b) same ∙ pads.head b low; becomes = became }

pub may_store : (g : Geometry) (d x y : Disk) (n size : ℕ) → PadsRest g n d x → y ≡ x → MayResize g (pieces g d) n size → IsTrue (is_inode g n)
may_store g d x y n size pads same may = inode_is g (pieces g d) n may.change.marked

-- the times
pub stamps : (g : Geometry) (d x f : Disk) (n now : ℕ) (i : Inode) → x ≡ d → i ≡ (pieces g d).inodes n → Alters g (with_inode (pieces g x) n (stamped now i)) x f → Stamps g n now d f
stamps g d x f n now i same is alters =
    let v = pieces g d in
    let altered : pieces g f ≡ with_inode v n (stamped now (v.inodes n)) = alters.pieces ∙ (λ t. with_inode (pieces g (same t)) n (stamped now (is t))) in
    record {
      head = λ b low. alters.head b low ∙ ap (λ (z : Disk). z b) same;
      becomes = λ may. subst (λ (z : Pieces). BecomesFile g v z n (stamped now (v.inodes n)) (file_at g v n)) (sym altered)
          (stored_becomes g v n (stamped now (v.inodes n)) may refl (may.rules.modes n may.marked) (λ p some. may.rules.inside n p may.marked some) (stamped now (v.inodes n)) (file_at g v n) refl
          (ap (file_of g v) (put-same v.inodes n (stamped now (v.inodes n)))));
    }

-- Pages are let go, and then the size is set.
module _ (g : Geometry) (d e : Disk) (n size p : ℕ) (last : p ≡ pages_of g size) (cut : DetachesFrom g n p d e) where
  abbrev before : Pieces
  before = pieces g d

  abbrev mid : Pieces
  mid = pieces g e

  module _ (may : MayChange g before n) where
    may_detach : MayDetach g before n
    may_detach = record { geometry = may.geometry; marked = may.marked; rules = may.rules }

    gone : LetGo g before mid n p
    gone = cut.let_go may_detach

    released : BecomesFile g before mid n (before.inodes n) (cut_at g.block_size (file_at g before n) p)
    released = becomes g before mid n may gone.rules gone.inodes.marks (λ m d. gone.inodes.attributes m) gone.files (before.inodes n) _ (gone.inodes.attributes n) gone.file

    pub fewer : MayResize g mid n size
    fewer = record {
      change = may_change_after g before mid n (before.inodes n) _ may released;
      inside = λ q some. elim (cases_lt q p) [
        | inl low ↦ omega (arith, low, last)
        | inr far ↦
            let is : (file_at g mid n).held q ≡ ((file_at g before n).held q && nat_lt q p) = ap (λ (x : File). x.held q) released.file in
            absurd (never ((file_at g before n).held q) (nat_lt q p) (le-ltb q p far) (sym is ∙ not_from_false (page_zone g mid (mid.inodes n) q == 0) (ne_eqb _ 0 some)))
      ];
    }
      where
        never : (a b : Bool) → b ≡ false → (a && b) ≡ true → ⊥
        never true false e t = absurd (cc)
        never false false e t = absurd (cc)
        never a true e t = absurd (cc)

    -- the file that is left
    left : resized (cut_at g.block_size (file_at g before n) p) size ≡ file_after_resize g (file_at g before n) size
    left = same_file _ _ refl (λ t q. byte q t) (λ t q. page q t)
      where
        fit : 0 < g.block_size
        fit = wide g may.geometry

        byte : (q : ℕ) → cond (nat_lt q size) (cond (nat_lt (q / g.block_size) p) ((file_at g before n).byte q) 0) 0 ≡ cond (nat_lt q size) ((file_at g before n).byte q) 0
        byte q = elim (cases_lt q size) [
          | inr far ↦ cond-false (nat_lt q size) _ 0 (le-ltb q size far) ∙ sym (cond-false (nat_lt q size) _ 0 (le-ltb q size far))
          | inl low ↦
              let b = page_begins g.block_size fit q in
              let l = covered g.block_size fit size (q / g.block_size) (omega (arith, b, low)) in
              ap (λ x. cond (nat_lt q size) x 0) (cond-true (nat_lt (q / g.block_size) p) _ 0 (lt-ltb (q / g.block_size) p (omega (arith, l, last))))
        ]

        page : (q : ℕ) → ((file_at g before n).held q && nat_lt q p) ≡ ((file_at g before n).held q && nat_lt (q * g.block_size) size)
        page q = ap (λ b. (file_at g before n).held q && b) (elim (cases_lt q p) [
          | inl low ↦
              let b = begins g.block_size fit size q (omega (arith, low, last)) in
              lt-ltb q p low ∙ sym (lt-ltb (q * g.block_size) size b)
          | inr far ↦ le-ltb q p far ∙ sym (le-ltb (q * g.block_size) size (elim (cases_lt (q * g.block_size) size) [
            | inl low ↦ let l = covered g.block_size fit size q low in absurd (omega (arith, l, far, last))
            | inr l ↦ l
          ]))
        ])

    became_shorter : (f : Disk) → Resized g n size e f → BecomesFile g before (pieces g f) n (before.inodes n) (file_after_resize g (file_at g before n) size)
    became_shorter f h = subst (λ (x : File). BecomesFile g before (pieces g f) n (before.inodes n) x) (ap (λ (x : File). resized x size) released.file ∙ left)
        (becomes_again g before mid (pieces g f) n (before.inodes n) _ (resized (file_at g mid n) size) may released (h.becomes fewer))

  pub sets_size : (f : Disk) → Resized g n size e f → SetsSize g n size d f
  sets_size f h = record { head = λ b low. h.head b low ∙ cut.head b low; becomes = λ may. became_shorter may f h }

pub may_detach_of : (g : Geometry) (v : Pieces) (n : ℕ) → MayChange g v n → MayDetach g v n
may_detach_of g v n may = record { geometry = may.geometry; marked = may.marked; rules = may.rules }
