-- A free inode of a volume becomes a node.
use Rattle.std.specs.Prelude.{◌≡◌, ◌≢◌, ◌<◌, ℕ, ◌+◌, List, replicate, true, Option, None, Some, IsTrue}
use Rattle.errno.specs.declared.Errno.TheVariants.{ENOSPC}
use Rattle.layout.specs.declared.Geometry.{Geometry}
use Rattle.tree.specs.declared.User.{User}
use Rattle.lemmas.specs.Sums.{put}
use Rattle.tree.specs.Tree.{Tree}
use Rattle.tree.specs.Refusals.{or_refuse}
use Rattle.tree.specs.Changes.{empty_directory, empty_file, free_inode, new_link, new_node}
use Rattle.tree.specs.Space.{data_zones}
use Rattle.volume.specs.declared.Inode.{Inode}
use Rattle.volume.specs.Reading.{Disk, is_inode}
use Rattle.volume.specs.Pieces.{Pieces, pieces}
use Rattle.volume.specs.Nodes.{nodes_of}
use Rattle.volume.specs.Holds.{IsSound}
use Rattle.zone.specs.Room.{taken_by}
use Rattle.inode_operations.specs.Steps.{Changes}

-- this is what a tree with these nodes finds as the least free inode
abbrev pub IsLeastFree : Geometry → Pieces → Option ℕ → Type 0
IsLeastFree g v x = (t : Tree) → t.nodes ≡ nodes_of g v → free_inode g t ≡ or_refuse x ENOSPC

-- the inode of a new node of a type: it has no bytes and no zones
abbrev pub new_inode : ℕ → ℕ → User → ℕ → ℕ → Inode
new_inode kind links user now permissions = record {
  mode = kind + permissions;
  links = links;
  uid = user.uid;
  gid = user.gid;
  size = 0;
  atime = now;
  mtime = now;
  ctime = now;
  zones = replicate 10 0;
}

-- pieces in which this inode is marked
abbrev pub with_new_inode : Pieces → ℕ → Inode → Pieces
with_new_inode v n i = record v { inode_map = put v.inode_map n true; inodes = put v.inodes n i }

-- A sound volume in which no node is at the number, which is an inode's.
pub record MayMakeFile (g : Geometry) (v : Pieces) (n : ℕ) : Type 0 where
  pub sound : IsSound g v
  pub number : IsTrue (is_inode g n)
  pub free : nodes_of g v n ≡ None

-- a file without bytes stands there
abbrev pub MakesFile : Geometry → ℕ → User → ℕ → ℕ → Disk → Disk → Type 0
MakesFile g n user now permissions d e = Changes g n (MayMakeFile g (pieces g d) n) (Some (new_node now user permissions 1 empty_file)) d e

-- The same, a parent, and a zone that no node takes.
pub record MayMakeDirectory (g : Geometry) (v : Pieces) (n parent : ℕ) : Type 0 where
  pub make : MayMakeFile g v n
  pub some : parent ≢ 0
  pub room : taken_by g (nodes_of g v) < data_zones g

-- a directory without names stands there
abbrev pub MakesDirectory : Geometry → ℕ → ℕ → User → ℕ → ℕ → Disk → Disk → Type 0
MakesDirectory g n parent user now permissions d e =
    Changes g n (MayMakeDirectory g (pieces g d) n parent) (Some (new_node now user permissions 2 (empty_directory parent))) d e

-- The same as of a file, and a zone that no node takes.
pub record MayMakeLink (g : Geometry) (v : Pieces) (n : ℕ) : Type 0 where
  pub make : MayMakeFile g v n
  pub room : taken_by g (nodes_of g v) < data_zones g

-- a symbolic link with this target stands there
abbrev pub MakesLink : Geometry → ℕ → User → ℕ → List ℕ → Disk → Disk → Type 0
MakesLink g n user now target d e = Changes g n (MayMakeLink g (pieces g d) n) (Some (new_link now user target)) d e
