-- A volume's bytes as four pieces that share no byte, so that each layer changes one of them at one key.
use Rattle.std.specs.Prelude.{ℕ, ◌-◌, [], Bool, ◌&&◌, nat_le, if◌then◌else◌}
use Rattle.layout.specs.declared.Geometry.{Geometry}
use Rattle.volume.specs.declared.Inode.{Inode}
use Rattle.volume.specs.Reading.{Disk, is_inode, is_data_zone, inode_bit, zone_bit, inode_of_disk}

-- the inode of a number that no inode has
abbrev pub blank : Inode
blank = record { mode = 0; links = 0; uid = 0; gid = 0; size = 0; atime = 0; mtime = 0; ctime = 0; zones = [] }

-- The bits of both maps by their numbers, bit 0 among them; the inodes by their numbers; the bytes of the data zones.
-- What lies past the last is false, blank or 0, so that a piece says nothing of other bytes.
pub record Pieces : Type 0 where
  pub inode_map : ℕ → Bool
  pub zone_map : ℕ → Bool
  pub inodes : ℕ → Inode
  pub zones : ℕ → ℕ → ℕ

-- the pieces of a disk
abbrev pub pieces : Geometry → Disk → Pieces
pieces g d = record {
  inode_map = λ n. nat_le n g.inodes && inode_bit g d n;
  zone_map = λ k. nat_le k (g.zones - g.first_zone) && zone_bit g d k;
  inodes = λ n. if is_inode g n then inode_of_disk g d n else blank;
  zones = λ z o. if is_data_zone g z then d z o else 0;
}
