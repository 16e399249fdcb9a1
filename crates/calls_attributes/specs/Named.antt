-- What the paths of calls on one node lead to.
use Rattle.std.specs.Prelude.{◌≡◌, ℕ, Some, Result, Ok, Err, IsTrue}
use Rattle.errno.specs.declared.Errno.{Errno}
use Rattle.layout.specs.declared.Geometry.{Geometry}
use Rattle.tree.specs.declared.PathFrom.{PathFrom}
use Rattle.tree.specs.declared.User.{User}
use Rattle.tree.specs.Tree.{Tree}
use Rattle.tree.specs.Refusals.{◌>>=◌}
use Rattle.tree.specs.Walk.{Way, read_path, walk, walk_to_last}
use Rattle.volume.specs.declared.Inode.{Inode}
use Rattle.volume.specs.Reading.{Disk}
use Rattle.volume.specs.Pieces.{pieces}
use Rattle.volume.specs.Nodes.{is_marked, node_of}
use Rattle.volume.specs.Holds.{HoldsVolume}
use Rattle.path.specs.Walking.{IsThere}

-- some tree is held
pub record IsVolume (g : Geometry) (d : Disk) : Type 0 where
  pub tree : Tree
  pub holds : HoldsVolume g d tree

-- the answer of a walk w, which is a node of the tree
pub record IsNamed (t : Tree) (w r : Result ℕ Errno) : Type 0 where
  pub answer : w ≡ r
  pub there : IsThere t r

-- of each tree that is held, by its walk
abbrev pub NamesBy : Geometry → Disk → (Tree → Result ℕ Errno) → Result ℕ Errno → Type 0
NamesBy g d walk r = (t : Tree) → HoldsVolume g d t → IsNamed t (walk t) r

-- of a path
abbrev pub Names : Geometry → Disk → User → PathFrom → Result ℕ Errno → Type 0
Names g d user path r = NamesBy g d (λ t. walk t user path) r

-- the walk of a path, where a link that stands last isn't followed
abbrev pub last_walk : Tree → User → PathFrom → Result ℕ Errno
last_walk t user path = read_path path >>= walk_to_last t user

-- of a way, so
abbrev pub LeadsTo : Geometry → Disk → User → Way → Result ℕ Errno → Type 0
LeadsTo g d user way r = NamesBy g d (λ t. walk_to_last t user way) r

-- and of a path
abbrev pub NamesLast : Geometry → Disk → User → PathFrom → Result ℕ Errno → Type 0
NamesLast g d user path r = NamesBy g d (λ t. last_walk t user path) r

-- the walk w leads to this inode, whose node is there
pub record IsFound (g : Geometry) (d : Disk) (t : Tree) (w : Result ℕ Errno) (n : ℕ) (i : Inode) : Type 0 where
  pub walked : w ≡ Ok n
  pub marked : IsTrue (is_marked g (pieces g d) n)
  pub node : t.nodes n ≡ Some (node_of g (pieces g d) ((pieces g d).inodes n))
  pub loaded : i ≡ (pieces g d).inodes n

-- the inode, or the refusal of the walk
abbrev pub FindsNode : Geometry → Disk → Tree → Result ℕ Errno → Result (ℕ × Inode) Errno → Type 0
FindsNode g d t w (Ok x) = IsFound g d t w x.0 x.1
FindsNode g d t w (Err e) = w ≡ Err e

-- of each tree that is held, by its walk
abbrev pub FindsBy : Geometry → Disk → (Tree → Result ℕ Errno) → Result (ℕ × Inode) Errno → Type 0
FindsBy g d walk r = (t : Tree) → HoldsVolume g d t → FindsNode g d t (walk t) r

abbrev pub Finds : Geometry → Disk → User → PathFrom → Result (ℕ × Inode) Errno → Type 0
Finds g d user path r = FindsBy g d (λ t. walk t user path) r

-- where a link that stands last isn't followed
abbrev pub FindsLast : Geometry → Disk → User → PathFrom → Result (ℕ × Inode) Errno → Type 0
FindsLast g d user path r = FindsBy g d (λ t. last_walk t user path) r
