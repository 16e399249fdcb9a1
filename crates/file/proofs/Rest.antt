-- The bytes behind the end of a file.
use Rattle.std.proofs.Common.{◌≡◌, ◌≢◌, ◌<◌, ◌≤◌, ◌+◌, ◌-◌, ◌*◌, ◌/◌, ◌%◌, ℕ, List, length, Bool, refl, sym, ap, subst, ◌∙◌, cond, arith}
use mathlib.Core.Logic.{inl, inr}
use Rattle.std.specs.Prelude.{IsTrue, nat_lt, ◌&&◌, ◌==◌, slice_index}
use Rattle.std.proofs.lemmas.Bool.{cases_eq, cases_lt, cond-true, cond-false, lt-ltb, le-ltb, eq-eqb, ne_eqb, and_from, and_left, and_right}
use Rattle.std.proofs.lemmas.Nat.{div-add-mod'}
use Rattle.std.proofs.lemmas.List.{get_or-take, get_or-drop, get_or-replicate, get_or_past, length-replicate}
use Rattle.std.proofs.Math.ListN.{take, drop, replicate, length-take}
use Rattle.layout.specs.declared.Geometry.{Geometry}
use Rattle.layout.specs.Places.{IsGeometry}
use Rattle.layout.proofs.Parsed.{is_sized}
use Rattle.volume.specs.declared.Inode.{Inode}
use Rattle.volume.specs.Reading.{Disk}
use Rattle.volume.specs.Pieces.{Pieces, pieces}
use Rattle.volume.specs.Nodes.{file_byte, page_byte, page_zone, is_marked}
use Rattle.block_store.specs.Rows.{with_bytes}
use Rattle.block_store.proofs.Rows.{row_new, row_old}
use Rattle.zone.proofs.Files.{same_file}
use Rattle.file.specs.Writing.{MayWrite, IsPageZone, PageIsWritten, WritesPage, with_chunk}
use Rattle.file.specs.PageChanges.{MayChange, BecomesFile, file_at, IsPadded, PadsRest}
use Rattle.file.proofs.Becoming.{becomes}
use Rattle.file.proofs.Sizes.{begins, rest_page, rest_from, rest_some}

-- a part of a row of zeros has zeros
pub part_zero : (n m from k : ℕ) → slice_index (take m (drop from (replicate n 0))) k ≡ 0
part_zero n m from k =
    let zero : ℕ = 0 in
    let all : List ℕ = replicate n zero in
    let many : length all ≡ n = length-replicate n zero in
    let part = length-take m (drop from all) in
    elim (cases_lt k m) [
      | inl low ↦ get_or-take m (drop from all) k 0 low ∙ get_or-drop from all k 0 ∙ elim (cases_lt (from + k) n) [
        | inl l ↦ get_or-replicate n (from + k) 0 0 l
        | inr far ↦ get_or_past all (from + k) 0 (omega (arith, many, far))
      ]
      | inr far ↦ get_or_past (take m (drop from all)) k 0 (omega (arith, part, far))
    ]

-- nothing changes
pub becomes_none : (g : Geometry) (v : Pieces) (n : ℕ) → MayChange g v n → BecomesFile g v v n (v.inodes n) (file_at g v n)
becomes_none g v n may = becomes g v v n may may.rules refl (λ m d. refl) (λ m is d. refl) (v.inodes n) (file_at g v n) refl refl

pub wide : (g : Geometry) → IsGeometry g → 0 < g.block_size
wide g ok = is_sized g.block_size ok.block_size

-- a held page past whose bytes the file ends is its last
pub held_begins : (g : Geometry) (v : Pieces) (n q : ℕ) → MayChange g v n → page_zone g v (v.inodes n) (q / g.block_size) ≢ 0
    → q / g.block_size * g.block_size < (v.inodes n).size
held_begins g v n q may held = begins g.block_size (wide g may.geometry) (v.inodes n).size (q / g.block_size) (may.rules.inside n (q / g.block_size) may.marked held)

module _ (g : Geometry) (v : Pieces) (n : ℕ) (may : MayChange g v n) (i : Inode) (is : i ≡ v.inodes n) where
  its_size : i.size ≡ (v.inodes n).size
  its_size = ap (λ (x : Inode). x.size) is

  -- nothing is behind the end where it is a page's
  pub padded_even : i.size % g.block_size ≡ 0 → IsPadded g v n
  padded_even even q past held =
      absurd (rest_some g.block_size (wide g may.geometry) (v.inodes n).size q past (held_begins g v n q may held) (sym (ap (λ x. x % g.block_size) its_size) ∙ even))

  -- nor where the last page is a hole
  pub padded_hole : page_zone g v i (i.size / g.block_size) ≡ 0 → IsPadded g v n
  padded_hole hole q past held =
      let last = rest_page g.block_size (wide g may.geometry) (v.inodes n).size q past (held_begins g v n q may held) in
      absurd (held (ap (page_zone g v (v.inodes n)) (sym last) ∙ (λ t. page_zone g v (sym is t) ((sym is t).size / g.block_size)) ∙ hole))

pub pads_none : (g : Geometry) (d e : Disk) (n : ℕ) → e ≡ d → (MayChange g (pieces g d) n → IsPadded g (pieces g d) n) → PadsRest g n d e
pads_none g d e n same padded = subst (λ (x : Disk). PadsRest g n d x) (sym same) (record {
  head = λ b low. refl;
  becomes = λ may. becomes_none g (pieces g d) n may;
  inodes = λ may. refl;
  padded = padded;
})

-- Zeros are written behind the end.
module _ (g : Geometry) (d f : Disk) (n z from p : ℕ) (i : Inode) (zeros : List ℕ) (is : i ≡ (pieces g d).inodes n) (starts : from ≡ i.size % g.block_size) (last : p ≡ i.size / g.block_size)
    (many : from + length zeros ≡ g.block_size) (none : (k : ℕ) → k < length zeros → slice_index zeros k ≡ 0)
    (there : z ≡ page_zone g (pieces g d) i p) (some : z ≢ 0) (h : WritesPage g n p z from zeros d f) where
  abbrev v : Pieces
  v = pieces g d

  abbrev w : Pieces
  w = pieces g f

  abbrev width : ℕ
  width = g.block_size

  module _ (may : MayChange g v n) where
    may_write : MayWrite g v n p z
    may_write = record {
      geometry = may.geometry;
      marked = may.marked;
      rules = may.rules;
      names = (λ t. page_zone g v (sym is t) p) ∙ sym there;
      held = some;
    }

    done : PageIsWritten g v w n p z from zeros
    done = h.written may_write

    size : i.size ≡ (v.inodes n).size
    size = ap (λ (x : Inode). x.size) is

    row_before : (o : ℕ) → o < from → with_bytes from zeros (v.zones z) o ≡ v.zones z o
    row_before o low = row_old from zeros (v.zones z) o (inl low)

    -- a byte of the file on the last page
    last_byte : (q : ℕ) → q < (v.inodes n).size → q / width ≡ p → with_bytes from zeros (v.zones z) (q % width) ≡ file_byte g v (v.inodes n) q
    last_byte q low e =
        let a = div-add-mod' q width in
        let b = div-add-mod' i.size width in
        let t : q / width * width ≡ i.size / width * width = ap (λ x. x * width) (e ∙ last) in
        let s = size in
        row_before (q % width) (omega (arith, a, b, t, s, low, starts))
        ∙ sym (cond-true (nat_lt q (v.inodes n).size) _ 0 (lt-ltb q (v.inodes n).size low)
        ∙ ap (λ y. page_byte v y (q % width)) (ap (page_zone g v (v.inodes n)) e ∙ may_write.names) ∙ cond-false (z == 0) 0 _ (ne_eqb z 0 some))

    each : (q : ℕ) → cond (nat_lt q (v.inodes n).size && (q / width == p)) (with_bytes from zeros (v.zones z) (q % width)) (file_byte g v (v.inodes n) q) ≡ file_byte g v (v.inodes n) q
    each q = elim (cases_lt q (v.inodes n).size) [
      | inr far ↦ cond-false (nat_lt q (v.inodes n).size && (q / width == p)) _ _ (and_left _ _ (le-ltb q _ far))
      | inl low ↦ elim (cases_eq (q / width) p) [
        | inr e ↦ cond-false (nat_lt q (v.inodes n).size && (q / width == p)) _ _ (and_right (nat_lt q (v.inodes n).size) (q / width == p) (ne_eqb _ p e))
        | inl e ↦ cond-true (nat_lt q (v.inodes n).size && (q / width == p)) _ _ (and_from _ _ (lt-ltb q _ low) (eq-eqb _ p e)) ∙ last_byte q low e
      ]
    ]

    file_stays : with_chunk g v n p z from zeros ≡ file_at g v n
    file_stays = same_file _ _ refl (λ t q. each q t) refl

    inodes_stay : w.inodes ≡ v.inodes
    inodes_stay = done.writes.inodes

    its_inode : w.inodes n ≡ record (v.inodes n) { zones = (w.inodes n).zones }
    its_inode = let e = ap (λ (k : ℕ → Inode). k n) inodes_stay in e ∙ sym (ap (λ (x : Inode). record (v.inodes n) { zones = x.zones }) e)

    other_inodes : (m : ℕ) → w.inodes m ≡ record (v.inodes m) { zones = (w.inodes m).zones }
    other_inodes m = let e = ap (λ (k : ℕ → Inode). k m) inodes_stay in e ∙ sym (ap (λ (x : Inode). record (v.inodes m) { zones = x.zones }) e)

    became : BecomesFile g v w n (v.inodes n) (file_at g v n)
    became = becomes g v w n may done.rules done.writes.marks (λ m differ. other_inodes m) done.files (v.inodes n) (file_at g v n) its_inode (done.file ∙ file_stays)

    -- the bytes behind the end
    behind : (o : ℕ) → from ≤ o → o < width → w.zones z o ≡ 0
    behind o far low =
        let k = o - from in
        let few : k < length zeros = omega (arith, many, low, far) in
        ap (λ (r : ℕ → ℕ). r o) done.row ∙ ap (with_bytes from zeros (v.zones z)) (let e : o ≡ from + k = omega (arith, far) in e) ∙ row_new from zeros (v.zones z) k few ∙ none k few

    is_padded : IsPadded g w n
    is_padded q past held =
        let marked : IsTrue (is_marked g w n) = ap (λ (x : ℕ → Bool). Rattle.volume.specs.Reading.is_inode g n && x n) done.writes.marks ∙ may.marked in
        let now : MayChange g w n = record { geometry = may.geometry; marked = marked; rules = done.rules } in
        let before = held_begins g w n q now held in
        let fit = wide g may.geometry in
        let its : (w.inodes n).size ≡ i.size = ap (λ (k : ℕ → Inode). (k n).size) inodes_stay ∙ sym size in
        let page : q / width ≡ p = sym (rest_page width fit (w.inodes n).size q past before) ∙ ap (λ x. x / width) its ∙ sym last in
        let far : (w.inodes n).size % width ≤ q % width = rest_from width fit (w.inodes n).size q past before in
        let same : (w.inodes n).size % width ≡ from = ap (λ x. x % width) its ∙ sym starts in
        let low : q % width < width = omega (arith, fit) in
        ap (λ y. w.zones y (q % width)) (ap (page_zone g w (w.inodes n)) page ∙ done.names) ∙ behind (q % width) (omega (arith, far, same)) low

  pub pads_zeros : PadsRest g n d f
  pads_zeros = record { head = h.head; becomes = became; inodes = inodes_stay; padded = is_padded }

-- a page in such a zone
pub may_pad : (g : Geometry) (v : Pieces) (n z p : ℕ) (i : Inode) → i ≡ v.inodes n → z ≡ page_zone g v i p → z ≢ 0 → MayChange g v n → MayWrite g v n p z
may_pad g v n z p i is there some may = record {
  geometry = may.geometry;
  marked = may.marked;
  rules = may.rules;
  names = (λ t. page_zone g v (sym is t) p) ∙ sym there;
  held = some;
}

module _ (g : Geometry) (d x y : Disk) (n z p : ℕ) (i : Inode) (one : x ≡ d) (is : i ≡ (pieces g d).inodes n) (two : y ≡ x) (there : z ≡ page_zone g (pieces g x) i p) (some : z ≢ 0) where
  here : z ≡ page_zone g (pieces g d) i p
  here = there ∙ ap (λ (t : Disk). page_zone g (pieces g t) i p) one

  pub rest_padded : (f : Disk) (from : ℕ) (zeros : List ℕ) → from ≡ i.size % g.block_size → p ≡ i.size / g.block_size → from + length zeros ≡ g.block_size
      → ((k : ℕ) → k < length zeros → slice_index zeros k ≡ 0) → WritesPage g n p z from zeros y f → PadsRest g n d f
  rest_padded f from zeros starts last many none h =
      pads_zeros g d f n z from p i zeros is starts last many none here some (subst (λ (t : Disk). WritesPage g n p z from zeros t f) (two ∙ one) h)

  pub rest_may : MayChange g (pieces g d) n → IsPageZone g (pieces g y) z
  rest_may may = (n, p, subst (λ (t : Disk). MayWrite g (pieces g t) n p z) (sym (two ∙ one)) (may_pad g (pieces g d) n z p i is here some may))
