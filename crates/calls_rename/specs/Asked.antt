-- What a rename asks of its two paths.
use Rattle.std.specs.Prelude.{◌≡◌, ◌||◌, ℕ, not, Some, Result, Ok, Err, IsTrue}
use Rattle.errno.specs.declared.Errno.{Errno}
use Rattle.errno.specs.declared.Errno.TheVariants.{EACCES, EINVAL, ENOENT}
use Rattle.layout.specs.declared.Geometry.{Geometry}
use Rattle.tree.specs.declared.PathFrom.{PathFrom}
use Rattle.tree.specs.declared.User.{User}
use Rattle.tree.specs.Names.{inode_of, is_name}
use Rattle.tree.specs.Tree.{Node, Tree}
use Rattle.tree.specs.Refusals.{◌>>=◌, or_refuse, refuse_if}
use Rattle.tree.specs.Walk.{Place, Way, has_last_name, last_part, may_access, node_at, parent_walk, read_path, to_write}
use Rattle.tree.specs.Answers.{Effect}
use Rattle.volume.specs.Reading.{Disk}
use Rattle.volume.specs.Pieces.{pieces}
use Rattle.volume.specs.Nodes.{directory_of, is_directory_mode, node_of}
use Rattle.volume.specs.Entries.{is_directory_inode}
use Rattle.volume.specs.Holds.{HoldsVolume}
use Rattle.inode_operations.specs.declared.moves.Move.{Move}
use Rattle.calls_rename.specs.declared.asked.Asked.{Asked}

-- what a rename does with its places and the node that moves
abbrev pub Rest : Type 0
Rest = Place → Place → ℕ → Node → Effect

-- A rename, from its walks up to where it looks at what stands at the new name.
abbrev pub on_places : Tree → User → Way → Way → Rest → Effect
on_places t user from to rest = do
  old ← parent_walk t user from
  n ← or_refuse (inode_of old.names old.name) ENOENT
  new ← parent_walk t user to
  old_parent ← node_at t old.directory
  _ ← refuse_if (not (may_access user old_parent to_write)) EACCES
  new_parent ← node_at t new.directory
  _ ← refuse_if (not (may_access user new_parent to_write)) EACCES
  node ← node_at t n
  rest old new n node

-- The same, from where it reads its paths.
abbrev pub on_paths : Tree → User → PathFrom → PathFrom → Rest → Effect
on_paths t user old_path new_path rest = do
  from ← read_path old_path
  to ← read_path new_path
  _ ← refuse_if (not (has_last_name from) || not (has_last_name to)) EINVAL
  on_places t user from to rest

-- the old place, with the directory's names
abbrev pub old_at : Geometry → Disk → Asked → Place
old_at g d x = record { directory = x.what.from; names = (directory_of g (pieces g d) x.from).names; name = x.what.old.now }

-- and the new one
abbrev pub new_at : Geometry → Disk → Asked → Place
new_at g d x = record { directory = x.what.to; names = (directory_of g (pieces g d) x.to).names; name = x.what.new.now }

-- the node that moves
abbrev pub moving_at : Geometry → Disk → Asked → Node
moving_at g d x = node_of g (pieces g d) ((pieces g d).inodes x.what.number)

-- Both directories are there with these inodes, the old name leads to what moves, the new one to what is there, and the call goes on with them.
pub record AreFound (g : Geometry) (d : Disk) (t : Tree) (on : Rest → Effect) (x : Asked) : Type 0 where
  pub from : x.from ≡ (pieces g d).inodes x.what.from
  pub from_there : t.nodes x.what.from ≡ Some (node_of g (pieces g d) x.from)
  pub from_directory : IsTrue (is_directory_inode g (pieces g d) x.what.from)
  pub to : x.to ≡ (pieces g d).inodes x.what.to
  pub to_there : t.nodes x.what.to ≡ Some (node_of g (pieces g d) x.to)
  pub to_directory : IsTrue (is_directory_inode g (pieces g d) x.what.to)
  pub leads : inode_of (old_at g d x).names x.what.old.now ≡ Some x.what.number
  pub finds : inode_of (new_at g d x).names x.what.new.now ≡ x.there
  pub there : t.nodes x.what.number ≡ Some (moving_at g d x)
  pub kind : x.what.is_directory ≡ is_directory_mode ((pieces g d).inodes x.what.number).mode
  pub goes_on : (rest : Rest) → on rest ≡ rest (old_at g d x) (new_at g d x) x.what.number (moving_at g d x)

-- the places, or the refusal
abbrev pub AreFoundOr : Geometry → Disk → Tree → (Rest → Effect) → Result Asked Errno → Type 0
AreFoundOr g d t on (Ok x) = AreFound g d t on x
AreFoundOr g d t on (Err e) = (rest : Rest) → on rest ≡ Err e

-- of two ways, whatever tree is held
abbrev pub FindsBoth : Geometry → Disk → User → Way → Way → Result Asked Errno → Type 0
FindsBoth g d user from to r = (t : Tree) → HoldsVolume g d t → AreFoundOr g d t (on_places t user from to) r

-- of two paths
abbrev pub FindsAsked : Geometry → Disk → User → PathFrom → PathFrom → Result Asked Errno → Type 0
FindsAsked g d user old new r = (t : Tree) → HoldsVolume g d t → AreFoundOr g d t (on_paths t user old new) r

-- the move is from the last part of a way to that of another, at this time
pub record IsBetween (now : ℕ) (from to : Way) (m : Move) : Type 0 where
  pub time : m.now ≡ now
  pub old : m.old.now ≡ last_part from.parts
  pub new : m.new.now ≡ last_part to.parts

-- from a name to a name
pub record IsNamed (now : ℕ) (m : Move) : Type 0 where
  pub time : m.now ≡ now
  pub old : IsTrue (is_name m.old.now)
  pub new : IsTrue (is_name m.new.now)
