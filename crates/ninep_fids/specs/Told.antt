-- Attributes of nodes and the room of a volume, as answers have them.
use Rattle.std.specs.Int.{div_ceil}
use Rattle.std.specs.Prelude.{ℕ}
use Rattle.ninep.specs.declared.reply.StatfsReply.{StatfsReply as RoomTold}
use Rattle.ninep.specs.declared.reply.Attributes.{Attributes as AttributesTold}
use Rattle.tree.specs.declared.Attributes.{Attributes}
use Rattle.tree.specs.declared.Statfs.{Statfs}
use Rattle.ninep_fids.specs.Nodes.{node_of, qid_of}

-- the attributes of a node: blocks are counted by its size, times are whole seconds
abbrev pub attributes_told : Attributes → AttributesTold
attributes_told a = record {
  valid = 0x7ff;
  qid = qid_of (node_of a);
  mode = a.mode;
  uid = a.uid;
  gid = a.gid;
  links = a.links;
  device = 0;
  size = a.size;
  block_size = 4096;
  blocks = div_ceil a.size 512;
  atime = (a.atime, 0);
  mtime = (a.mtime, 0);
  ctime = (a.ctime, 0);
  made = (0, 0);
  generation = 0;
  data_version = 0;
}

-- the room of the volume, by zones
abbrev pub room_told : Statfs → RoomTold
room_told room = record {
  kind = 0x01021997;
  block_size = room.block_size;
  blocks = room.zones;
  free = room.free_zones;
  available = room.free_zones;
  files = room.inodes;
  free_files = room.free_inodes;
  id = 0;
  name_length = 60;
}
