-- The two maps of a volume. Number n of the inode map stands for inode n, number n of the zone map for zone n - 1 of the data zones,
-- and number 0 of either for nothing.
use Rattle.std.specs.Prelude.{ℕ, ◌+◌, ◌-◌, ◌*◌, Bool, min, max}
use Rattle.layout.specs.declared.Geometry.{Geometry}
use Rattle.lemmas.specs.Sums.{put}
use Rattle.volume.specs.Pieces.{Pieces}
use Rattle.block_store.specs.Regions.{zone_map_start}
use Rattle.bitmap.specs.declared.Map.{Map}
use Rattle.bitmap.specs.declared.Map.TheVariants as map

-- the set of numbers that a map is
abbrev pub numbers_in : Map → Pieces → ℕ → Bool
numbers_in map.Inodes v = v.inode_map
numbers_in map.Zones v = v.zone_map

-- pieces where a number is in a map, or isn't
abbrev pub with_number : Map → Pieces → ℕ → Bool → Pieces
with_number map.Inodes v n x = record v { inode_map = put v.inode_map n x }
with_number map.Zones v n x = record v { zone_map = put v.zone_map n x }

-- a map's last number
abbrev pub last_number : Map → Geometry → ℕ
last_number map.Inodes g = g.inodes
last_number map.Zones g = g.zones - g.first_zone

-- the block in which a map begins
abbrev pub first_block : Map → Geometry → ℕ
first_block map.Inodes g = 2
first_block map.Zones g = zone_map_start g

-- the number at which the numbers of a map's first so many blocks end
abbrev pub reach : Map → Geometry → ℕ → ℕ
reach m g k = min (last_number m g + 1) (max 1 (k * (8 * g.block_size)))
