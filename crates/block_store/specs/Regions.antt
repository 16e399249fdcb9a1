-- What a write to one block of a volume changes: the piece in whose region the block lies, and no other.
use Rattle.std.specs.Prelude.{◌≤◌, ◌<◌, ℕ, ◌+◌, IsTrue}
use Rattle.layout.specs.declared.Geometry.{Geometry}
use Rattle.layout.specs.Places.{IsGeometry}
use Rattle.lemmas.specs.Sums.{put}
use Rattle.volume.specs.Reading.{Disk, is_data_zone}
use Rattle.volume.specs.Pieces.{Pieces, pieces}
use Rattle.block_store.specs.Volume.{Alters}

-- the block in which the zone map begins, and that in which the inode table does; the inode map begins at block 2
abbrev pub zone_map_start : Geometry → ℕ
zone_map_start g = 2 + g.inode_map_blocks

abbrev pub table_start : Geometry → ℕ
table_start g = 2 + g.inode_map_blocks + g.zone_map_blocks

-- pieces with another inode map, another zone map, another inode table, and with other bytes in one data zone
abbrev pub with_inode_map : Pieces → Pieces → Pieces
with_inode_map v w = record v { inode_map = w.inode_map }

abbrev pub with_zone_map : Pieces → Pieces → Pieces
with_zone_map v w = record v { zone_map = w.zone_map }

abbrev pub with_inodes : Pieces → Pieces → Pieces
with_inodes v w = record v { inodes = w.inodes }

abbrev pub with_zone : Pieces → ℕ → (ℕ → ℕ) → Pieces
with_zone v z row = record v { zones = put v.zones z row }

-- Whatever bytes come to stand in a block of the inode map, the other pieces stay, and the blocks before the maps.
abbrev pub InodeMapAlone : Type 0
InodeMapAlone = (g : Geometry) (d : Disk) (block : ℕ) (row : ℕ → ℕ) → IsGeometry g → 2 ≤ block → block < zone_map_start g
    → Alters g (with_inode_map (pieces g d) (pieces g (put d block row))) d (put d block row)

-- the same of the zone map
abbrev pub ZoneMapAlone : Type 0
ZoneMapAlone = (g : Geometry) (d : Disk) (block : ℕ) (row : ℕ → ℕ) → IsGeometry g → zone_map_start g ≤ block → block < table_start g
    → Alters g (with_zone_map (pieces g d) (pieces g (put d block row))) d (put d block row)

-- the same of the inode table
abbrev pub TableAlone : Type 0
TableAlone = (g : Geometry) (d : Disk) (block : ℕ) (row : ℕ → ℕ) → IsGeometry g → table_start g ≤ block → block < g.first_zone
    → Alters g (with_inodes (pieces g d) (pieces g (put d block row))) d (put d block row)

-- The bytes that come to stand in a data zone are that zone's, and all else stays, the other data zones too.
abbrev pub ZoneAlone : Type 0
ZoneAlone = (g : Geometry) (d : Disk) (zone : ℕ) (row : ℕ → ℕ) → IsGeometry g → IsTrue (is_data_zone g zone)
    → Alters g (with_zone (pieces g d) zone row) d (put d zone row)
