-- Places for new names, and numbers for new nodes.
use Rattle.std.specs.Prelude.{◌≡◌, ◌<◌, ◌≤◌, ℕ, ◌+◌, not, true, None, Some, Result, Ok, Err, IsTrue}
use Rattle.errno.specs.declared.Errno.{Errno}
use Rattle.errno.specs.declared.Errno.TheVariants.{EACCES, EEXIST, ENOSPC}
use Rattle.layout.specs.declared.Geometry.{Geometry}
use Rattle.tree.specs.declared.PathFrom.{PathFrom}
use Rattle.tree.specs.declared.User.{User}
use Rattle.tree.specs.Names.{Name, inode_of, is_name, with_name}
use Rattle.lemmas.specs.Sums.{put}
use Rattle.tree.specs.Tree.{Node, Tree, is_dir, names_of}
use Rattle.tree.specs.Refusals.{◌>>=◌, refuse_if}
use Rattle.tree.specs.Walk.{is_taken, may_access, node_at, parent_walk, read_path, to_write}
use Rattle.tree.specs.Walk as tree
use Rattle.tree.specs.Changes.{free_inode, with_names}
use Rattle.tree.specs.Answers.{Effect}
use Rattle.tree.specs.Space.{data_zones}
use Rattle.volume.specs.Pieces.{pieces}
use Rattle.volume.specs.Reading.{Disk}
use Rattle.zone.specs.Room.{taken_by}
use Rattle.path.specs.declared.place.NamePlace.{NamePlace}
use Rattle.path.specs.Places.{place_of}

-- A call that puts a new name at the end of a path, up to where it looks at the place and its directory.
abbrev pub at_new_place : Tree → User → PathFrom → (tree.Place → Node → Effect) → Effect
at_new_place t user path rest = do
  way ← read_path path
  place ← parent_walk t user way
  _ ← refuse_if (is_taken place way) EEXIST
  parent ← node_at t place.directory
  _ ← refuse_if (not (may_access user parent to_write)) EACCES
  rest place parent

-- Nothing is at the place, whose directory is this node, and its name is one that may be.
pub record IsVacant (g : Geometry) (d : Disk) (t : Tree) (p : NamePlace) (parent : Node) : Type 0 where
  pub there : t.nodes p.directory ≡ Some parent
  pub directory : is_dir parent ≡ true
  pub names : (place_of g d p).names ≡ names_of (Some parent)
  pub inode : p.inode ≡ (pieces g d).inodes p.directory
  pub named : IsTrue (is_name p.name.now)
  pub free : inode_of (names_of (Some parent)) p.name.now ≡ None

-- The call goes on with that place and its directory.
pub record IsNewPlace (g : Geometry) (d : Disk) (t : Tree) (user : User) (path : PathFrom) (p : NamePlace) : Type 0 where
  pub parent : Node
  pub goes_on : (rest : tree.Place → Node → Effect) → at_new_place t user path rest ≡ rest (place_of g d p) parent
  pub vacant : IsVacant g d t p parent

-- or the refusal
abbrev pub FindsNewPlace : Geometry → Disk → Tree → User → PathFrom → Result NamePlace Errno → Type 0
FindsNewPlace g d t user path (Ok p) = IsNewPlace g d t user path p
FindsNewPlace g d t user path (Err e) = (rest : tree.Place → Node → Effect) → at_new_place t user path rest ≡ Err e

-- how many zones the nodes take where the directory has a name more
abbrev pub zones_with_name : Geometry → Tree → ℕ → Node → Name → ℕ → ℕ → ℕ
zones_with_name g t directory parent name now n =
    taken_by g (put t.nodes directory (Some (with_names now (λ names. with_name names name n) parent)))

-- the least free inode, where there are zones enough for a name more and others beside
pub record IsFreeFor (g : Geometry) (t : Tree) (directory : ℕ) (parent : Node) (name : Name) (others n : ℕ) : Type 0 where
  pub least : free_inode g t ≡ Ok n
  pub room : (now : ℕ) → zones_with_name g t directory parent name now n + others ≤ data_zones g

-- or why there is none: no inode is free, or too few zones are
pub record IsFull (g : Geometry) (t : Tree) (directory : ℕ) (parent : Node) (name : Name) (others : ℕ) (e : Errno) : Type 0 where
  pub errno : e ≡ ENOSPC
  pub none : (n : ℕ) → free_inode g t ≡ Ok n → (now : ℕ) → data_zones g < zones_with_name g t directory parent name now n + others

abbrev pub FindsNumber : Geometry → Tree → ℕ → Node → Name → ℕ → Result ℕ Errno → Type 0
FindsNumber g t directory parent name others (Ok n) = IsFreeFor g t directory parent name others n
FindsNumber g t directory parent name others (Err e) = IsFull g t directory parent name others e
