-- The bytes of a page, and those of its zone.
use Rattle.std.proofs.Common.{◌≡◌, ◌<◌, ◌+◌, ℕ, List, length, Bool, true, false, refl, sym, ap, ◌∙◌, arith}
use Rattle.std.specs.Prelude.{IsTrue, ◌==◌, if◌then◌else◌, slice_index}
use Rattle.std.proofs.lemmas.Bool.{cond-false, ne_eqb}
use Rattle.layout.specs.declared.Geometry.{Geometry}
use Rattle.layout.specs.Places.{IsGeometry}
use Rattle.volume.specs.Reading.{Disk, is_data_zone}
use Rattle.volume.specs.Pieces.{pieces}
use Rattle.volume.specs.Nodes.{page_byte}
use Rattle.block_store.specs.Rows.{HasBytes}
use Rattle.zone.proofs.Frames.{zone_bounds, zone_row}

-- a page that lies in a data zone has the bytes that stand there
pub bytes_inside : (g : Geometry) → IsGeometry g → (d : Disk) (z w from : ℕ) (bytes : List ℕ) → IsTrue (is_data_zone g z) → z ≡ w
    → HasBytes from bytes (d z) → HasBytes from bytes (page_byte (pieces g d) w)
bytes_inside g ok d z w from bytes is same h = λ k low. h k low ∙ sym (here (from + k)) ∙ ap (λ y. page_byte (pieces g d) y (from + k)) same
  where
    here : (o : ℕ) → page_byte (pieces g d) z o ≡ d z o
    here o =
        cond-false (z == 0) 0 ((pieces g d).zones z o) (ne_eqb z 0 (λ e. let f = ok.first in let low = (zone_bounds g z is).0 in absurd (omega (arith, e, f, low))))
        ∙ ap (λ (f : ℕ → ℕ). f o) (zone_row g d z is)

-- nothing either way
abbrev none_or : Bool → ℕ
none_or b = if b then 0 else 0

-- any other page has zeros
pub bytes_outside : (g : Geometry) (d : Disk) (z w from : ℕ) (bytes : List ℕ) → is_data_zone g z ≡ false → z ≡ w
    → ((k : ℕ) → k < length bytes → slice_index bytes k ≡ 0) → HasBytes from bytes (page_byte (pieces g d) w)
bytes_outside g d z w from bytes not same h = λ k low. h k low ∙ sym (here (from + k)) ∙ ap (λ y. page_byte (pieces g d) y (from + k)) same
  where
    by : (b : Bool) → none_or b ≡ 0
    by true = refl
    by false = refl

    here : (o : ℕ) → page_byte (pieces g d) z o ≡ 0
    here o = ap (λ (b : Bool). if z == 0 then 0 else (if b then d z o else 0)) not ∙ by (z == 0)
