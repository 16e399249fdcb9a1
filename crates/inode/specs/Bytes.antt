-- The bytes of an inode, and what stat tells by them.
use Rattle.std.specs.Prelude.{ℕ, List, ◌++◌}
use Rattle.std.specs.List.{flat_map}
use Rattle.std.specs.Int.{w16, w32, to_le_bytes}
use Rattle.tree.specs.declared.Attributes.{Attributes}
use Rattle.volume.specs.declared.Inode.{Inode}

-- the fields in their order, each a little-endian number of two or four bytes
abbrev pub bytes_of : Inode → List ℕ
bytes_of i =
    to_le_bytes w16 i.mode ++ to_le_bytes w16 i.links ++ to_le_bytes w16 i.uid ++ to_le_bytes w16 i.gid
    ++ to_le_bytes w32 i.size ++ to_le_bytes w32 i.atime ++ to_le_bytes w32 i.mtime ++ to_le_bytes w32 i.ctime
    ++ flat_map (to_le_bytes w32) i.zones

-- what stat tells of inode n
abbrev pub attributes_in : ℕ → Inode → Attributes
attributes_in n i = record {
  inode = n;
  mode = i.mode;
  links = i.links;
  uid = i.uid;
  gid = i.gid;
  size = i.size;
  atime = i.atime;
  mtime = i.mtime;
  ctime = i.ctime;
}
