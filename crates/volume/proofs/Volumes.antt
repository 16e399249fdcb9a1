-- What the pieces of every disk of a geometry that was read have.
use Rattle.std.proofs.Common.{◌≡◌, ◌≢◌, ◌<◌, ◌*◌, ℕ, Bool, true, false, arith, cond}
use mathlib.Core.Logic.{inl, inr}
use Rattle.std.proofs.lemmas.Bool.{cases_Bool}
use Rattle.layout.specs.declared.Geometry.{Geometry}
use Rattle.layout.specs.Places.{IsGeometry}
use Rattle.layout.proofs.Parsed.{block_sizes}
use Rattle.tree.specs.Space.{numbers_in_zone}
use Rattle.volume.specs.Reading.{Disk, u32_in, is_data_zone}
use Rattle.volume.specs.Pieces.{Pieces, pieces}
use Rattle.volume.specs.Nodes.{word}
use Rattle.volume.proofs.Ranges.{data_low}

-- a zone holds numbers, and no number but 0 stands past the last zone
pub record IsVolume (g : Geometry) (v : Pieces) : Type 0 where
  pub geometry : IsGeometry g
  pub sized : 0 < numbers_in_zone g
  pub words : (z j : ℕ) → word v z j ≢ 0 → z < g.zones

-- a block has room for numbers
pub numbers_sized : (g : Geometry) → IsGeometry g → 0 < numbers_in_zone g
numbers_sized g ok = elim (block_sizes g.block_size ok.block_size) [
  | inl e ↦ omega arith
  | inr (inl e) ↦ omega arith
  | inr (inr e) ↦ omega arith
]

-- under a false guard stands 0
zero_word : (b : Bool) (f : ℕ → ℕ) (p : ℕ) → b ≡ false → u32_in (λ o. cond b (f o) 0) p ≡ 0
zero_word true f p e = absurd (cc)
zero_word false f p e = omega arith

-- the pieces of a disk
pub is_volume : (g : Geometry) (d : Disk) → IsGeometry g → IsVolume g (pieces g d)
is_volume g d ok = record {
  geometry = ok;
  sized = numbers_sized g ok;
  words = λ z j some. elim (cases_Bool (is_data_zone g z)) [
    | inl is ↦ (data_low g (pieces g d) z is).1
    | inr out ↦ absurd (some (zero_word (is_data_zone g z) (d z) (4 * j) out))
  ];
}
