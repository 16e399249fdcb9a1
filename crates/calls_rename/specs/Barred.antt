-- Why a rename may not move what it found.
use Rattle.std.specs.Prelude.{◌≡◌, ◌&&◌, ◌==◌, ℕ, not, Bool, true, false, Option, None, Some, nat_le, option_map, Err, if◌then◌else◌}
use Rattle.errno.specs.declared.Errno.{Errno}
use Rattle.errno.specs.declared.Errno.TheVariants.{EBUSY, EINVAL, EISDIR, EMLINK, ENOTDIR, ENOTEMPTY}
use Rattle.layout.specs.declared.Geometry.{Geometry}
use Rattle.tree.specs.Tree.{Node, Tree, is_dir, is_dir_at, is_open, most_links}
use Rattle.tree.specs.Refusals.{◌>>=◌, refuse_if}
use Rattle.tree.specs.Walk.{Place, node_at}
use Rattle.tree.specs.Answers.{Effect}
use Rattle.tree.specs.NameCalls.{can_replace, has_room_for_link, is_within}
use Rattle.volume.specs.declared.Inode.{Inode}
use Rattle.volume.specs.Reading.{Disk}
use Rattle.volume.specs.Pieces.{pieces}
use Rattle.volume.specs.Nodes.{is_directory_mode, node_of}
use Rattle.volume.specs.Holds.{Holds, HoldsVolume}
use Rattle.descriptors.specs.Files.{Files, HasFiles, tree_with}
use Rattle.inode_operations.specs.declared.moves.Move.{Move}
use Rattle.calls_rename.specs.declared.asked.Asked.{Asked}
use Rattle.calls_rename.specs.Asked.{AreFound, Rest, moving_at, new_at, old_at}

-- what a rename does once nothing stands against it, with the node that loses its name, if one does
abbrev pub Then : Type 0
Then = Option Node → Effect

-- A rename of a node to a place where another stands, or nothing, from where it knows that they differ up to where it looks whether the tree
-- after it fits.
abbrev pub onto : Tree → Place → Place → Node → Option ℕ → Then → Effect
onto t old new node None rest = do
  parent ← node_at t new.directory
  _ ← has_room_for_link node old.directory new.directory parent
  rest None
onto t old new node (Some m) rest = do
  other ← node_at t m
  _ ← can_replace t node m other
  rest (Some other)

abbrev pub on_move : Geometry → Tree → Place → Place → ℕ → Node → Option ℕ → Then → Effect
on_move g t old new n node there rest = do
  _ ← refuse_if (is_dir node && is_within g t new.directory n) EINVAL
  onto t old new node there rest

-- the node of a number
abbrev pub other_at : Geometry → Disk → ℕ → Node
other_at g d q = node_of g (pieces g d) ((pieces g d).inodes q)

-- What moves isn't a directory that the new place lies in, what loses its name is of its kind, and the call goes on with that.
pub record MayMove (g : Geometry) (d : Disk) (t : Tree) (x : Asked) : Type 0 where
  pub apart : (is_dir (moving_at g d x) && is_within g t x.what.to x.what.number) ≡ false
  pub kind : (q : ℕ) → x.there ≡ Some q → is_dir (other_at g d q) ≡ x.what.is_directory
  pub goes_on : (rest : Then) → on_move g t (old_at g d x) (new_at g d x) x.what.number (moving_at g d x) x.there rest ≡ rest (option_map (other_at g d) x.there)

-- it may move, or why not
abbrev pub MayMoveOr : Geometry → Disk → Tree → Asked → Option Errno → Type 0
MayMoveOr g d t x None = MayMove g d t x
MayMoveOr g d t x (Some e) = (rest : Then) → on_move g t (old_at g d x) (new_at g d x) x.what.number (moving_at g d x) x.there rest ≡ Err e

-- of each tree that is held, and in which it was found so
abbrev pub SaysBarred : Geometry → Files → Disk → Asked → Option Errno → Type 0
SaysBarred g f d x r = (t : Tree) (on : Rest → Effect) → HoldsVolume g d t → HasFiles f t → AreFound g d t on x → MayMoveOr g d t x r

-- in some tree that is held it was found so
pub record IsFound (g : Geometry) (d : Disk) (x : Asked) : Type 0 where
  pub tree : Tree
  pub on : Rest → Effect
  pub holds : HoldsVolume g d tree
  pub found : AreFound g d tree on x

-- whether the new directory is what moves, or lies below it; nothing lies in a file
abbrev pub SaysInside : Geometry → Disk → Move → Bool → Type 0
SaysInside g d m b = (t : Tree) → Holds g d t → is_dir_at t.nodes m.to ≡ true → b ≡ (m.is_directory && is_within g t m.to m.number)

-- why there is no room for a link more of the new directory
abbrev pub why_full : Asked → Option Errno
why_full x = if x.what.is_directory && not (x.what.from == x.what.to) && nat_le most_links x.to.links then Some EMLINK else None

-- why the node of an inode may not lose its name to a directory or a file, where these files are open
abbrev pub why_kept : Files → Bool → ℕ → Inode → Option Errno
why_kept f moves n i =
    if moves && not (is_directory_mode i.mode) then Some ENOTDIR else
    if not moves && is_directory_mode i.mode then Some EISDIR else
    if is_directory_mode i.mode && not (i.size == 128) then Some ENOTEMPTY else
    if is_directory_mode i.mode && is_open (tree_with f) n then Some EBUSY else None
