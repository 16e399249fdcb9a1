-- What link asks of its two paths.
use Rattle.std.specs.Prelude.{◌≡◌, ◌<◌, ◌≤◌, ◌+◌, ℕ, not, Bool, true, false, None, Some, Result, Ok, Err, IsTrue, nat_le}
use Rattle.errno.specs.declared.Errno.{Errno}
use Rattle.errno.specs.declared.Errno.TheVariants.{EACCES, EEXIST, EMLINK, EPERM}
use Rattle.layout.specs.declared.Geometry.{Geometry}
use Rattle.tree.specs.declared.User.{User}
use Rattle.tree.specs.Names.{Name, inode_of}
use Rattle.tree.specs.Tree.{Node, Tree, is_dir, most_links, most_size}
use Rattle.tree.specs.Refusals.{◌>>=◌, refuse_if}
use Rattle.tree.specs.Walk.{Place, Way, has_last_name, is_taken, last_part, may_access, node_at, parent_walk, to_write, walk_to_last}
use Rattle.tree.specs.Answers.{Effect}
use Rattle.volume.specs.Reading.{Disk}
use Rattle.volume.specs.Pieces.{Pieces, pieces}
use Rattle.volume.specs.Nodes.{node_of}
use Rattle.volume.specs.Entries.{is_directory_inode}
use Rattle.volume.specs.Holds.{HoldsVolume}
use Rattle.directory.specs.Directories.{before}
use Rattle.file.specs.PageChanges.{MayChange}
use Rattle.inode_operations.specs.Naming.{IsRoomForEntry}
use Rattle.calls_names.specs.declared.linking.Free.{Free}

-- Link, from where the paths are read up to where it looks for the new place. A link that stands last isn't followed.
abbrev pub on_file : Tree → User → Way → (ℕ → Node → Effect) → Effect
on_file t user way rest = do
  n ← walk_to_last t user way
  node ← node_at t n
  _ ← refuse_if (is_dir node) EPERM
  _ ← refuse_if (nat_le most_links node.links) EMLINK
  rest n node

-- A file that may have a link more, and the call goes on with it.
pub record IsLinkable (g : Geometry) (d : Disk) (t : Tree) (user : User) (way : Way) (n : ℕ) : Type 0 where
  pub there : t.nodes n ≡ Some (node_of g (pieces g d) ((pieces g d).inodes n))
  pub file : is_dir (node_of g (pieces g d) ((pieces g d).inodes n)) ≡ false
  pub few : ((pieces g d).inodes n).links < most_links
  pub goes_on : (rest : ℕ → Node → Effect) → on_file t user way rest ≡ rest n (node_of g (pieces g d) ((pieces g d).inodes n))

-- the file, or the refusal
abbrev pub IsFileOr : Geometry → Disk → Tree → User → Way → Result ℕ Errno → Type 0
IsFileOr g d t user way (Ok n) = IsLinkable g d t user way n
IsFileOr g d t user way (Err e) = (rest : ℕ → Node → Effect) → on_file t user way rest ≡ Err e

abbrev pub FindsFile : Geometry → Disk → User → Way → Result ℕ Errno → Type 0
FindsFile g d user way r = (t : Tree) → HoldsVolume g d t → IsFileOr g d t user way r

-- From there up to where it asks for room.
abbrev pub on_free : Tree → User → Way → (Place → Effect) → Effect
on_free t user way rest = do
  place ← parent_walk t user way
  _ ← refuse_if (is_taken place way) EEXIST
  parent ← node_at t place.directory
  _ ← refuse_if (not (may_access user parent to_write)) EACCES
  rest place

-- the place with the directory's names
abbrev pub free_at : Geometry → Disk → Free → Place
free_at g d x = record { directory = x.directory; names = (before g (pieces g d) x.directory).names; name = x.name.now }

-- A directory without the name, and the call goes on with the place.
pub record IsFree (g : Geometry) (d : Disk) (t : Tree) (user : User) (way : Way) (x : Free) : Type 0 where
  pub directory : IsTrue (is_directory_inode g (pieces g d) x.directory)
  pub missing : inode_of (free_at g d x).names x.name.now ≡ None
  pub size : x.size ≡ ((pieces g d).inodes x.directory).size
  pub goes_on : (rest : Place → Effect) → on_free t user way rest ≡ rest (free_at g d x)

-- the place, or the refusal
abbrev pub IsFreeOr : Geometry → Disk → Tree → User → Way → Result Free Errno → Type 0
IsFreeOr g d t user way (Ok x) = IsFree g d t user way x
IsFreeOr g d t user way (Err e) = (rest : Place → Effect) → on_free t user way rest ≡ Err e

abbrev pub FindsFree : Geometry → Disk → User → Way → Result Free Errno → Type 0
FindsFree g d user way r = (t : Tree) → HoldsVolume g d t → IsFreeOr g d t user way r

-- the name is the path's last, which it has
pub record IsLast (way : Way) (name : Name) : Type 0 where
  pub named : has_last_name way ≡ true
  pub last : name ≡ last_part way.parts

-- There is room for the entry at the end of the directory, which isn't too long.
pub record IsRoomFor (g : Geometry) (v : Pieces) (x : Free) (room : Bool) : Type 0 where
  pub short : room ≡ true → x.size + 64 ≤ most_size
  pub asked : x.size + 64 ≤ most_size → MayChange g v x.directory → IsRoomForEntry g v x.directory x.size room
