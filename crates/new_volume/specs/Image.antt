-- The bytes of a new volume.
use Rattle.std.specs.Prelude.{ℕ, ◌+◌, ◌-◌, ◌*◌, ◌^◌, List, ◌++◌, length, map, replicate, Bool, ◌||◌, nat_le, nat_lt, if◌then◌else◌}
use Rattle.std.specs.List.{range_with_len}
use Rattle.layout.specs.declared.Geometry.{Geometry}
use Rattle.layout.specs.Places.{table_blocks}
use Rattle.layout.specs.Superblock.{with_superblock}
use Rattle.lemmas.specs.Sums.{sum_below}
use Rattle.tree.specs.Space.{data_zones}
use Rattle.tree.specs.declared.User.{User}
use Rattle.volume.specs.Fresh.{fresh_entries}
use Rattle.inode.specs.Bytes.{bytes_of}
use Rattle.new_volume.specs.Owned.{owned_inode}

-- Whether bit b of a new map is set, the last of whose bits that say something is this: bit 0, that of the root or its zone,
-- and those past the last.
abbrev pub is_set : ℕ → ℕ → Bool
is_set last b = nat_le b 1 || nat_lt last b

-- byte k of that map: bit b of a map is bit b mod 8 of byte b div 8
abbrev pub map_byte : ℕ → ℕ → ℕ
map_byte last k = sum_below (λ j. if is_set last (8 * k + j) then 2 ^ j else 0) 8

-- its first bytes
abbrev pub map_bytes : ℕ → ℕ → List ℕ
map_bytes last size = map (map_byte last) (range_with_len 0 size)

-- bytes, and zeros up to a length
abbrev pub filled : List ℕ → ℕ → List ℕ
filled bytes size = bytes ++ replicate (size - length bytes) 0

-- an image by its sizes and its first bytes: all others are zero
abbrev pub filled_image : Geometry → List ℕ → List ℕ
filled_image g front = filled front (g.zones * g.block_size)

-- two blocks with the superblock, the maps, and the inode table with the root's inode first; all else is zero
abbrev pub new_tables : Geometry → ℕ → User → List ℕ
new_tables g now owner =
    with_superblock g (replicate (2 * g.block_size) 0)
    ++ map_bytes g.inodes (g.inode_map_blocks * g.block_size)
    ++ map_bytes (data_zones g) (g.zone_map_blocks * g.block_size)
    ++ filled (bytes_of (owned_inode g now owner)) (table_blocks g * g.block_size)

-- These, and the data zones with the root's directory first; all else is zero.
abbrev pub new_image : Geometry → ℕ → User → List ℕ
new_image g now owner = new_tables g now owner ++ filled fresh_entries (data_zones g * g.block_size)
