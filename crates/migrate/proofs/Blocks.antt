-- The blocks of a volume.
use Rattle.std.proofs.Common.{◌≡◌, ◌<◌, ◌≤◌, ◌+◌, ◌*◌, ℕ, slice_index, length, true, false, sym, ap, ◌∙◌, arith}
use mathlib.Core.Logic.{inl, inr}
use Rattle.std.specs.Prelude.{◌==◌}
use Rattle.std.proofs.lemmas.Bool.{cases_eq, cond-true, cond-false, eq-eqb, ne_eqb}
use Rattle.volume.specs.Reading.{is_data_zone}
use Rattle.volume.specs.Nodes.{page_byte}
use Rattle.image.specs.declared.Image.{Image}
use Rattle.image.specs.Contents.{contents}
use Rattle.image.proofs.Places as places

module _ (i : Image) (z : ℕ) where
  -- no byte stands in what is no data zone
  pub no_page : (o : ℕ) → is_data_zone i.geometry z ≡ false → page_byte (contents i) z o ≡ 0
  unfolding contents
  no_page o out = elim (cases_eq z 0) [
    | inl e ↦ cond-true (z == 0) 0 _ (eq-eqb z 0 e)
    | inr d ↦ cond-false (z == 0) 0 _ (ne_eqb z 0 d) ∙ places.no_byte i.bytes.now i.geometry i.parsed z o out
  ]

  module _ (blocks : i.geometry.block_size ≡ 1024) (is : is_data_zone i.geometry z ≡ true) where
    -- a byte of a data zone
    pub page_read : (o : ℕ) → o < 1024 → slice_index i.bytes.now (z * 1024 + o) ≡ page_byte (contents i) z o
    unfolding contents
    page_read o h =
        let some = (places.data_some i.bytes.now i.geometry i.parsed z is).0 in
        ap (λ b. slice_index i.bytes.now (z * b + o)) (sym blocks)
        ∙ sym (cond-false (z == 0) 0 _ (ne_eqb z 0 some) ∙ places.zone_byte i.bytes.now i.geometry i.parsed z o is (omega arith))

    -- the whole zone lies in the image
    pub page_inside : z * 1024 + 1024 ≤ length i.bytes.now
    page_inside =
        let low = (places.data_some i.bytes.now i.geometry i.parsed z is).1 in
        let last = places.inside i.bytes.now i.geometry i.parsed z 1023 low (omega arith) in
        let flat : z * i.geometry.block_size ≡ z * 1024 = ap (λ b. z * b) blocks in
        omega arith
