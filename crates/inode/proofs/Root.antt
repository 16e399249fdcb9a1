-- Where the root lies.
use Rattle.std.proofs.Common.{◌≡◌, ◌≤◌, ◌<◌, ◌+◌, ◌-◌, ◌*◌, ◌/◌, ◌%◌, ℕ, ap, ◌∙◌, arith}
use mathlib.Core.Logic.{inl, inr}
use Rattle.std.proofs.Math.Nat.{zero-div, zero-mod, zero-mul, add-mul, mul-le-mul_right, div-add-mod', mod-lt}
use Rattle.std.proofs.lemmas.Bool.{cases_lt}
use Rattle.layout.specs.declared.Geometry.{Geometry}
use Rattle.layout.specs.Places.{IsGeometry, table_blocks}
use Rattle.layout.proofs.Parsed.{block_sizes}
use Rattle.volume.specs.Reading.{inode_block, inode_offset}
use Rattle.inode.specs.Laws.{root_place, RootIsPlaced}

module _ (g : Geometry) where
  -- the block of the root
  abbrev start : ℕ
  start = 2 + g.inode_map_blocks + g.zone_map_blocks

  -- it is the table's first
  pub block : inode_block g 1 ≡ start
  block = ap (λ q. start + q) (zero-div (g.block_size / 64)) ∙ omega arith

  -- and the root begins it
  pub offset : inode_offset g 1 ≡ 0
  offset = ap (λ q. 64 * q) (zero-mod (g.block_size / 64))

  module _ (geometry : IsGeometry g) where
    -- the table has a block
    some_table : 1 ≤ table_blocks g
    some_table =
        let some = geometry.some_inode in
        let many = 64 * g.inodes + g.block_size - 1 in
        let split = div-add-mod' many g.block_size in
        let rest : many % g.block_size < g.block_size = mod-lt many geometry.sized in
        elim (cases_lt 0 (many / g.block_size)) [
          | inl is ↦ is
          | inr none ↦
              let zero : many / g.block_size ≡ 0 = omega arith in
              let product : many / g.block_size * g.block_size ≡ 0 = ap (λ q. q * g.block_size) zero ∙ zero-mul g.block_size in
              absurd (omega arith)
        ]

    -- so the root's block comes before the data zones
    before : start + 1 ≤ g.first_zone
    before = let first = geometry.first in let some = some_table in omega arith

    -- with all its bytes
    inside : root_place g + g.block_size ≤ g.first_zone * g.block_size
    inside = let more = mul-le-mul_right g.block_size before in let sum = add-mul start 1 g.block_size in omega arith

    -- and it begins at a sector
    sectors : root_place g % 512 ≡ 0
    sectors = elim (block_sizes g.block_size geometry.block_size) [
      | inl e ↦ let same : start * g.block_size ≡ start * 1024 = ap (λ n. start * n) e in omega arith
      | inr (inl e) ↦ let same : start * g.block_size ≡ start * 2048 = ap (λ n. start * n) e in omega arith
      | inr (inr e) ↦ let same : start * g.block_size ≡ start * 4096 = ap (λ n. start * n) e in omega arith
    ]

-- the law of its place
pub root_is_placed : RootIsPlaced
root_is_placed g geometry = record { block = block g; offset = offset g; inside = inside g geometry; sectors = sectors g geometry }
