-- What the superblock of a version 2 volume says, and when it is refused.
use Rattle.std.specs.Prelude.{ℕ, ◌*◌, List, length, not, ◌==◌, nat_lt, if◌then◌else◌, Result, Ok, Err}
use Rattle.layout.specs.declared.Geometry.{Geometry}
use Rattle.layout.specs.Bytes.{u16_at, u32_at}
use Rattle.layout.specs.Places.{counts_agree}
use Rattle.migrate.specs.declared.old_volume.superblock.OldRefusal.{OldRefusal}
use Rattle.migrate.specs.declared.old_volume.superblock.OldRefusal.TheVariants.{Truncated, BadMagic, BadZoneSize, BadCounts, DoesNotFit}

-- The sizes as the superblock's fields give them, not yet looked at. Blocks have 1024 bytes.
abbrev pub old_superblock_geometry : List ℕ → Geometry
old_superblock_geometry image = record {
  block_size = 1024;
  inodes = u16_at image 1024;
  zones = u32_at image 1044;
  inode_map_blocks = u16_at image 1028;
  zone_map_blocks = u16_at image 1030;
  first_zone = u16_at image 1032;
}

-- the geometry of a version 2 image, or the first refusal that holds; 9320 is the magic number 0x2468
abbrev pub old_geometry_of : List ℕ → Result Geometry OldRefusal
old_geometry_of image =
    let g = old_superblock_geometry image in
    if nat_lt (length image) 1048 then Err Truncated else
    if not (u16_at image 1040 == 9320) then Err BadMagic else
    if not (u16_at image 1034 == 0) then Err BadZoneSize else
    if not (counts_agree g) then Err BadCounts else
    if nat_lt (length image) (1024 * g.zones) then Err DoesNotFit else
    Ok g

-- the refusals in their order, from 1 on
abbrev pub old_refusal_number : OldRefusal → ℕ
old_refusal_number Truncated = 1
old_refusal_number BadMagic = 2
old_refusal_number BadZoneSize = 3
old_refusal_number BadCounts = 4
old_refusal_number DoesNotFit = 5
