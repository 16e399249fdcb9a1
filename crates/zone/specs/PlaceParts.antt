-- Numbers of blocks: one that is put in, the last one, some side by side; and the zones of pages side by side.
use Rattle.std.specs.Prelude.{◌≡◌, ◌≢◌, ℕ, ◌+◌, ◌-◌, ◌*◌, ◌%◌, ◌<◌, if◌then◌else◌, nat_lt, List, length, slice_index, Option, None, Some}
use Rattle.std.specs.Int.{w32, to_le_bytes}
use Rattle.layout.specs.declared.Geometry.{Geometry}
use Rattle.tree.specs.Space.{numbers_in_zone}
use Rattle.volume.specs.declared.Inode.{Inode}
use Rattle.volume.specs.Pieces.{Pieces}
use Rattle.volume.specs.Nodes.{number, page_zone}
use Rattle.block_store.specs.Rows.{with_bytes}
use Rattle.block_store.specs.Regions.{with_zone}
use Rattle.zone.specs.ZoneSteps.{IsBare}

-- pieces in which number j of a block is x
abbrev pub with_number : Pieces → ℕ → ℕ → ℕ → Pieces
with_number v block j x = with_zone v block (with_bytes (4 * j) (to_le_bytes w32 x) (v.zones block))

-- the last number of a block, before one of them, that isn't 0, or there is none
abbrev pub IsLastNumber : Pieces → ℕ → ℕ → Option ℕ → Type 0
IsLastNumber v block before None = (i : ℕ) → i < before → number v block i ≡ 0
IsLastNumber v block before (Some j) =
    (j < before) × (number v block j ≢ 0) × ((i : ℕ) → j < i → i < before → number v block i ≡ 0)

-- a number of a block that isn't 0, or there is none
abbrev pub IsSomeNumber : Geometry → Pieces → ℕ → Option ℕ → Type 0
IsSomeNumber g v block None = IsBare g v block
IsSomeNumber g v block (Some j) = (j < numbers_in_zone g) × (number v block j ≢ 0)

-- these are the numbers of a block that stand side by side, from one of them on
abbrev pub HasNumbers : Pieces → ℕ → ℕ → List ℕ → Type 0
HasNumbers v block from words = (k : ℕ) → k < length words → slice_index words k ≡ number v block (from + k)

-- the first n of these are the zones of an inode's pages side by side, from a page on
abbrev pub HasZones : Geometry → Pieces → Inode → ℕ → ℕ → List ℕ → Type 0
HasZones g v i page n zones = (k : ℕ) → k < n → slice_index zones k ≡ page_zone g v i (page + k)

-- how many pages one look-up has, from a page on: those that are left of the inode's own, or of those that the page's block names
abbrev pub row_left : Geometry → ℕ → ℕ
row_left g page = if nat_lt page 7 then 7 - page else numbers_in_zone g - (page - 7) % numbers_in_zone g
