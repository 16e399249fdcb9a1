-- What the paths of calls on names mean.
use Rattle.std.specs.Prelude.{◌≡◌, ◌==◌, ℕ, not, Option, None, Some, Result, Ok, Err, IsTrue, if◌then◌else◌}
use Rattle.errno.specs.declared.Errno.{Errno}
use Rattle.errno.specs.declared.Errno.TheVariants.{EACCES, EBUSY, EINVAL, ENOENT, ENOTDIR, ENOTEMPTY}
use Rattle.layout.specs.declared.Geometry.{Geometry}
use Rattle.tree.specs.declared.PathFrom.{PathFrom}
use Rattle.tree.specs.declared.User.{User}
use Rattle.tree.specs.Names.{inode_of, is_name}
use Rattle.tree.specs.Tree.{Node, Tree, is_open}
use Rattle.tree.specs.Refusals.{◌>>=◌, or_refuse, refuse_if}
use Rattle.tree.specs.Walk.{Place, Way, has_last_name, may_access, node_at, parent_walk, read_path, to_write}
use Rattle.tree.specs.Answers.{Effect}
use Rattle.volume.specs.declared.Inode.{Inode}
use Rattle.volume.specs.Reading.{Disk}
use Rattle.volume.specs.Pieces.{pieces}
use Rattle.volume.specs.Nodes.{is_directory_mode, node_of, permissions_in}
use Rattle.volume.specs.Entries.{is_directory_inode}
use Rattle.volume.specs.Holds.{HoldsVolume}
use Rattle.directory.specs.Directories.{before}
use Rattle.descriptors.specs.Files.{Files, tree_with}
use Rattle.path.specs.declared.place.NamePlace.{NamePlace as Found}
use Rattle.path.specs.Places.{FindsPlace}
use Rattle.calls_names.specs.declared.named.Named.{Named}

-- some tree is held
pub record IsVolume (g : Geometry) (d : Disk) : Type 0 where
  pub tree : Tree
  pub holds : HoldsVolume g d tree

-- the node has the attributes of the inode
pub record IsOfInode (node : Node) (i : Inode) : Type 0 where
  pub permissions : node.permissions ≡ permissions_in i.mode
  pub uid : node.uid ≡ i.uid
  pub gid : node.gid ≡ i.gid

-- the place, or the walk's refusal, of each tree that is held
abbrev pub MeansPlace : Geometry → Disk → User → Way → Result Found Errno → Type 0
MeansPlace g d user way r = (t : Tree) → HoldsVolume g d t → FindsPlace g d t user way r

-- A call that takes a name away, up to where it looks at the node.
abbrev pub on_name : Tree → User → PathFrom → (Place → ℕ → Node → Effect) → Effect
on_name t user path rest = do
  way ← read_path path
  _ ← refuse_if (not (has_last_name way)) EINVAL
  place ← parent_walk t user way
  n ← or_refuse (inode_of place.names place.name) ENOENT
  parent ← node_at t place.directory
  _ ← refuse_if (not (may_access user parent to_write)) EACCES
  node ← node_at t n
  rest place n node

-- the place of the name, with the directory's names
abbrev pub place_at : Geometry → Disk → Named → Place
place_at g d x = record { directory = x.directory; names = (before g (pieces g d) x.directory).names; name = x.name.now }

-- The name stands in a directory and leads to this inode, and the call goes on with them.
pub record IsNamed (g : Geometry) (d : Disk) (t : Tree) (user : User) (path : PathFrom) (x : Named) : Type 0 where
  pub directory : IsTrue (is_directory_inode g (pieces g d) x.directory)
  pub name : IsTrue (is_name x.name.now)
  pub found : inode_of (place_at g d x).names x.name.now ≡ Some x.number
  pub loaded : x.inode ≡ (pieces g d).inodes x.number
  pub goes_on : (rest : Place → ℕ → Node → Effect) → on_name t user path rest ≡ rest (place_at g d x) x.number (node_of g (pieces g d) x.inode)

-- the name, or the refusal
abbrev pub IsNameOr : Geometry → Disk → Tree → User → PathFrom → Result Named Errno → Type 0
IsNameOr g d t user path (Ok x) = IsNamed g d t user path x
IsNameOr g d t user path (Err e) = (rest : Place → ℕ → Node → Effect) → on_name t user path rest ≡ Err e

abbrev pub FindsName : Geometry → Disk → User → PathFrom → Result Named Errno → Type 0
FindsName g d user path r = (t : Tree) → HoldsVolume g d t → IsNameOr g d t user path r

-- why a name may not go with its directory where these files are open
abbrev pub why_kept : Files → Named → Option Errno
why_kept f x =
    if not (is_directory_mode x.inode.mode) then Some ENOTDIR else
    if not (x.inode.size == 128) then Some ENOTEMPTY else
    if is_open (tree_with f) x.number then Some EBUSY else None
