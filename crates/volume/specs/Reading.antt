-- The bytes of a volume by block and offset, and the numbers, bits and inodes that stand in them.
use Rattle.std.specs.Prelude.{ℕ, ◌+◌, ◌-◌, ◌*◌, ◌/◌, ◌%◌, ◌^◌, List, [], ◌∷◌, slice_index, Bool, ◌&&◌, ◌==◌, nat_lt, nat_le, if◌then◌else◌}
use Rattle.layout.specs.declared.Geometry.{Geometry}
use Rattle.volume.specs.declared.Inode.{Inode}

-- The byte at each offset of each block, and 0 past a block's end: an image, or what a server would read back.
abbrev pub Disk : Type 0
Disk = ℕ → ℕ → ℕ

-- the disk whose bytes stand in a row, block after block
abbrev pub blocks_of : Geometry → (ℕ → ℕ) → Disk
blocks_of g bytes = λ b o. if nat_lt o g.block_size then bytes (b * g.block_size + o) else 0

-- the disk of an image
abbrev pub disk_of : Geometry → List ℕ → Disk
disk_of g image = blocks_of g (slice_index image)

-- the little-endian number of two bytes at place p of a row of bytes
abbrev pub u16_in : (ℕ → ℕ) → ℕ → ℕ
u16_in f p = f p + 256 * f (p + 1)

-- the little-endian number of four bytes at place p of a row of bytes
abbrev pub u32_in : (ℕ → ℕ) → ℕ → ℕ
u32_in f p = u16_in f p + 65536 * u16_in f (p + 2)

-- bit b of a row of bytes: bit b mod 8 of byte b div 8
abbrev pub bit_in : (ℕ → ℕ) → ℕ → Bool
bit_in f b = f (b / 8) / 2 ^ (b % 8) % 2 == 1

-- bit b of the map that begins at a block
abbrev pub map_bit : Geometry → Disk → ℕ → ℕ → Bool
map_bit g d start b = let width = 8 * g.block_size in bit_in (d (start + b / width)) (b % width)

-- bit n of the inode map
abbrev pub inode_bit : Geometry → Disk → ℕ → Bool
inode_bit g d n = map_bit g d 2 n

-- bit b of the zone map
abbrev pub zone_bit : Geometry → Disk → ℕ → Bool
zone_bit g d b = map_bit g d (2 + g.inode_map_blocks) b

-- n is the number of an inode of the volume
abbrev pub is_inode : Geometry → ℕ → Bool
is_inode g n = nat_le 1 n && nat_le n g.inodes

-- z is the number of a data zone
abbrev pub is_data_zone : Geometry → ℕ → Bool
is_data_zone g z = nat_le g.first_zone z && nat_lt z g.zones

-- the inode whose 64 bytes begin at place p of a row of bytes
abbrev pub inode_in : (ℕ → ℕ) → ℕ → Inode
inode_in f p = record {
  mode = u16_in f p;
  links = u16_in f (p + 2);
  uid = u16_in f (p + 4);
  gid = u16_in f (p + 6);
  size = u32_in f (p + 8);
  atime = u32_in f (p + 12);
  mtime = u32_in f (p + 16);
  ctime = u32_in f (p + 20);
  zones = u32_in f (p + 24) ∷ u32_in f (p + 28) ∷ u32_in f (p + 32) ∷ u32_in f (p + 36) ∷ u32_in f (p + 40) ∷ u32_in f (p + 44)
      ∷ u32_in f (p + 48) ∷ u32_in f (p + 52) ∷ u32_in f (p + 56) ∷ u32_in f (p + 60) ∷ [];
}

-- the block in which inode n lies
abbrev pub inode_block : Geometry → ℕ → ℕ
inode_block g n = 2 + g.inode_map_blocks + g.zone_map_blocks + (n - 1) / (g.block_size / 64)

-- the offset at which inode n begins in its block
abbrev pub inode_offset : Geometry → ℕ → ℕ
inode_offset g n = 64 * ((n - 1) % (g.block_size / 64))

-- inode n of a disk
abbrev pub inode_of_disk : Geometry → Disk → ℕ → Inode
inode_of_disk g d n = inode_in (d (inode_block g n)) (inode_offset g n)
