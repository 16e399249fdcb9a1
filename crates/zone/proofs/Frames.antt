-- What stands in data zones, and what writes to them change.
use Rattle.std.proofs.Common.{◌≡◌, ◌<◌, ◌≤◌, ◌*◌, ◌/◌, ℕ, List, length, Bool, true, false, refl, sym, ap, subst, ◌∙◌, arith}
use Rattle.std.specs.Prelude.{IsTrue, ◌==◌, nat_le, nat_lt, if◌then◌else◌, slice_index, Option, None, Some}
use Rattle.std.proofs.lemmas.Bool.{and_parts, leb-true, ltb-true, cond-true, cond-false, ne_eqb}
use Rattle.layout.specs.declared.Geometry.{Geometry}
use Rattle.layout.specs.Places.{IsGeometry}
use Rattle.lemmas.specs.Sums.{put}
use Rattle.volume.specs.Reading.{Disk, is_data_zone, u32_in}
use Rattle.volume.specs.Pieces.{Pieces, pieces}
use Rattle.volume.specs.Nodes.{number}
use Rattle.layout.specs.Bytes.{u32_at}
use Rattle.tree.specs.Space.{numbers_in_zone}
use Rattle.block_store.specs.Rows.{with_bytes, written, cleared}
use Rattle.block_store.specs.Volume.{Alters}
use Rattle.zone.specs.PlaceParts.{IsLastNumber, IsSomeNumber}
use Rattle.zone.specs.Words.{IsLastWord}
use Rattle.block_store.specs.Regions.{with_zone}
use Rattle.block_store.proofs.Alone.{in_zone}

-- the bounds of a data zone
pub zone_bounds : (g : Geometry) (z : ℕ) → IsTrue (is_data_zone g z) → (g.first_zone ≤ z) × (z < g.zones)
zone_bounds g z h = let p = and_parts (nat_le g.first_zone z) (nat_lt z g.zones) h in (leb-true g.first_zone z p.0, ltb-true z g.zones p.1)

-- what stands in a data zone is what the pieces say
pub zone_row : (g : Geometry) (d : Disk) (z : ℕ) → IsTrue (is_data_zone g z) → (pieces g d).zones z ≡ d z
zone_row g d z is = λ i o. cond-true (is_data_zone g z) (d z o) 0 is i

-- nothing either way
abbrev none_or : Bool → ℕ
none_or b = if b then 0 else 0

-- no number stands outside the data zones
pub number_outside : (g : Geometry) (d : Disk) (z j : ℕ) → is_data_zone g z ≡ false → 0 ≡ number (pieces g d) z j
number_outside g d z j h = sym (ap (λ (b : Bool). if z == 0 then 0 else u32_in (λ o. if b then d z o else 0) (4 * j)) h ∙ by (z == 0))
  where
    by : (b : Bool) → none_or b ≡ 0
    by true = refl
    by false = refl

-- inside, the bytes say it
pub number_inside : (g : Geometry) → IsGeometry g → (d : Disk) (z j : ℕ) → IsTrue (is_data_zone g z) → number (pieces g d) z j ≡ u32_in (d z) (4 * j)
number_inside g ok d z j is =
    cond-false (z == 0) 0 _ (ne_eqb z 0 (λ e. let f = ok.first in let low = (zone_bounds g z is).0 in absurd (omega (arith, e, f, low))))
    ∙ ap (λ (f : ℕ → ℕ). u32_in f (4 * j)) (zone_row g d z is)

-- a zone whose bytes were written
pub bytes_written : (g : Geometry) → IsGeometry g → (d e : Disk) (z from : ℕ) (bytes : List ℕ) → IsTrue (is_data_zone g z) → e ≡ written z from bytes d
    → Alters g (with_zone (pieces g d) z (with_bytes from bytes ((pieces g d).zones z))) d e
bytes_written g ok d e z from bytes is new =
    subst (λ (f : Disk). Alters g (with_zone (pieces g d) z (with_bytes from bytes ((pieces g d).zones z))) d f)
    (sym (new ∙ ap (λ (r : ℕ → ℕ). put d z (with_bytes from bytes r)) (sym (zone_row g d z is))))
    (in_zone g ok d z (with_bytes from bytes ((pieces g d).zones z)) is)

-- one whose bytes were cleared
pub zone_cleared : (g : Geometry) → IsGeometry g → (d e : Disk) (z : ℕ) → IsTrue (is_data_zone g z) → e ≡ cleared z d → Alters g (with_zone (pieces g d) z (λ o. 0)) d e
zone_cleared g ok d e z is new =
    subst (λ (f : Disk). Alters g (with_zone (pieces g d) z (λ o. 0)) d f) (sym new) (in_zone g ok d z (λ o. 0) is)

-- the last number of a block is the last of its bytes
pub last_number_is : (g : Geometry) → IsGeometry g → (d : Disk) (z before : ℕ) (bytes : List ℕ) (x : Option ℕ) → IsTrue (is_data_zone g z)
    → d z ≡ slice_index bytes → IsLastWord bytes before x → IsLastNumber (pieces g d) z before x
last_number_is g ok d z before bytes x is shown h = by x h
  where
    at : (j : ℕ) → number (pieces g d) z j ≡ u32_at bytes (4 * j)
    at j = number_inside g ok d z j is ∙ ap (λ (f : ℕ → ℕ). u32_in f (4 * j)) shown

    by : (x : Option ℕ) → IsLastWord bytes before x → IsLastNumber (pieces g d) z before x
    by None h = λ j l. at j ∙ h j l
    by (Some k) h = (h.0, λ e. h.1 (sym (at k) ∙ e), λ i l m. at i ∙ h.2 i l m)

-- the last of all is one that isn't 0
pub last_is_some : (g : Geometry) (v : Pieces) (z w : ℕ) (x : Option ℕ) → w ≡ numbers_in_zone g → IsLastNumber v z w x → IsSomeNumber g v z x
last_is_some g v z w None wide h = λ j l. h j (omega (arith, wide, l))
last_is_some g v z w (Some j) wide h = (let l = h.0 in omega (arith, wide, l), h.1)

-- outside the data zones there is none
pub no_last_number : (g : Geometry) (d : Disk) (z before : ℕ) → is_data_zone g z ≡ false → IsLastNumber (pieces g d) z before None
no_last_number g d z before h j l = sym (number_outside g d z j h)
