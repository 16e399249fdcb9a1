-- The bytes of a file that were read so far, and those of the next page.
use Rattle.std.proofs.Common.{◌≡◌, ◌<◌, ◌≤◌, ◌+◌, ◌-◌, ◌*◌, ◌/◌, ◌%◌, ℕ, List, length, ◌++◌, sym, ap, ◌∙◌, arith}
use mathlib.Core.Logic.{inl, inr}
use Rattle.std.specs.Prelude.{nat_lt, slice_index, Result, Ok, Err, IfOk}
use Rattle.std.proofs.lemmas.Bool.{cond-true, cases_lt, lt-ltb}
use Rattle.std.proofs.lemmas.Nat.{div-add-mod', div-mul-add, mod-mul-add}
use Rattle.std.proofs.Math.ListN.{get_or-append}
use Rattle.layout.specs.declared.Geometry.{Geometry}
use Rattle.tree.specs.Tree.{File}
use Rattle.volume.specs.declared.Inode.{Inode}
use Rattle.volume.specs.Pieces.{Pieces}
use Rattle.volume.specs.Nodes.{file_of, file_byte, page_byte, page_zone}
use Rattle.block_store.specs.declared.Cut.{Cut}
use Rattle.block_store.specs.Rows.{HasBytes}
use Rattle.zone.specs.PlaceParts.{HasZones}
use Rattle.file.specs.Reading.{HasFileBytes}
use Rattle.file.proofs.Parts.{index_before, index_inside}
use borrow.Rule.Slice.PartMut.{put_mid}

-- a byte of a page is the file's
pub page_is_file : (g : Geometry) (v : Pieces) (i : Inode) (place j : ℕ) → place % g.block_size + j < g.block_size → place + j < i.size
    → page_byte v (page_zone g v i (place / g.block_size)) (place % g.block_size + j) ≡ file_byte g v i (place + j)
page_is_file g v i place j low inside =
    let w = g.block_size in
    let whole = div-add-mod' place w in
    let spot : place + j ≡ place / w * w + (place % w + j) = omega (arith, whole) in
    let page : (place + j) / w ≡ place / w = ap (λ x. x / w) spot ∙ div-mul-add (place / w) w (place % w + j) low in
    let offset : (place + j) % w ≡ place % w + j = ap (λ x. x % w) spot ∙ mod-mul-add (place / w) w (place % w + j) low in
    sym (cond-true (nat_lt (place + j) i.size) (page_byte v (page_zone g v i ((place + j) / w)) ((place + j) % w)) 0 (lt-ltb (place + j) i.size inside)
    ∙ ap (λ p. page_byte v (page_zone g v i p) ((place + j) % w)) page
    ∙ ap (λ o. page_byte v (page_zone g v i (place / w)) o) offset)

-- the zones of a row that is the front of another
pub row_in_front : (g : Geometry) (v : Pieces) (i : Inode) (page most : ℕ) (new rest : List ℕ) (r : Result ℕ Cut) → length new ≡ most → IfOk r (λ n. (0 < n) × (n ≤ most))
    → IfOk r (λ n. HasZones g v i page n new) → IfOk r (λ n. HasZones g v i page n (new ++ rest))
row_in_front g v i page most new rest (Ok n) many some h = λ k low. get_or-append new rest 0 k (omega (arith, many, some.1, low)) ∙ h k low
row_in_front g v i page most new rest (Err e) many some h = tt

-- the bytes of a page are those of its zone in a row
pub row_bytes : (g : Geometry) (v : Pieces) (i : Inode) (first many index page from : ℕ) (zones new : List ℕ) → HasZones g v i first many zones → first + index ≡ page → index < many
    → HasBytes from new (page_byte v (slice_index zones index)) → HasBytes from new (page_byte v (page_zone g v i page))
row_bytes g v i first many index page from zones new names its low has = λ k l. has k l ∙ ap (λ z. page_byte v z (from + k)) (names index low ∙ ap (page_zone g v i) its)

-- and those of the next page
pub next_bytes : (g : Geometry) (v : Pieces) (i : Inode) (at done end page from : ℕ) (old new : List ℕ)
    → page ≡ (at + done) / g.block_size → from ≡ (at + done) % g.block_size
    → done ≤ end → at + end ≤ i.size → from + (end - done) ≤ g.block_size → end ≤ length old → length new ≡ end - done
    → HasFileBytes (file_of g v i) at done old → HasBytes from new (page_byte v (page_zone g v i page))
    → HasFileBytes (file_of g v i) at end (put_mid done (end - done) old new)
next_bytes g v i at done end page from old new is starts up inside within room many had has = λ k low. elim (cases_lt k done) [
  | inl l ↦ index_before done (end - done) old new (omega (arith, up, room)) many k l ∙ had k l
  | inr m ↦
      let j = k - done in
      let few : j < length new = omega (arith, many, low, m) in
      index_inside done (end - done) old new (omega (arith, up, room)) many k m (omega (arith, low, up)) ∙ has j few
      ∙ ap (λ p. page_byte v (page_zone g v i p) (from + j)) is
      ∙ ap (λ o. page_byte v (page_zone g v i ((at + done) / g.block_size)) (o + j)) starts
      ∙ page_is_file g v i (at + done) j (omega (arith, starts, within, few, many)) (omega (arith, m, low, inside))
      ∙ ap (file_byte g v i) (omega (arith, m))
]

-- and those of the next pages
pub next_part : (f : File) (at done end more : ℕ) (old new : List ℕ) → done ≤ end → end ≤ length old → length new ≡ end - done → more ≤ end - done
    → HasFileBytes f at done old → HasFileBytes f (at + done) more new → HasFileBytes f at (done + more) (put_mid done (end - done) old new)
next_part f at done end more old new up room many few had has = λ k low. elim (cases_lt k done) [
  | inl l ↦ index_before done (end - done) old new (omega (arith, up, room)) many k l ∙ had k l
  | inr m ↦
      let spot : at + done + (k - done) ≡ at + k = omega (arith, m) in
      index_inside done (end - done) old new (omega (arith, up, room)) many k m (omega (arith, low, few)) ∙ has (k - done) (omega (arith, low, m)) ∙ ap f.byte spot
]
