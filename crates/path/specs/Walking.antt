-- Steps from node to node.
use Rattle.std.specs.Prelude.{◌≡◌, ◌++◌, ℕ, List, take, Option, None, Some, Result, Ok, Err, IfOk, IsTrue, is_some}
use Rattle.errno.specs.declared.Errno.{Errno}
use Rattle.layout.specs.declared.Geometry.{Geometry}
use Rattle.tree.specs.declared.Start.{Start}
use Rattle.tree.specs.declared.User.{User}
use Rattle.tree.specs.Names.{Name, Names}
use Rattle.tree.specs.Tree.{Tree, target_of}
use Rattle.tree.specs.Refusals.{◌>>=◌}
use Rattle.tree.specs.Walk.{Way, enter, next, walk_from, follow_links, first_node, walk_parts}
use Rattle.path.specs.declared.step.Stand.{Stand}
use Rattle.volume.specs.declared.Inode.{Inode}
use Rattle.volume.specs.Entries.{is_directory_inode}
use Rattle.volume.specs.Nodes.{directory_of}
use Rattle.volume.specs.Holds.{IsSoundDirectory}
use Rattle.volume.specs.Pieces.{Pieces, pieces}
use Rattle.volume.specs.Reading.{Disk}

-- the parent and the names that an inode says
abbrev pub entries_in : Geometry → Disk → Inode → ℕ × Names
entries_in g d i = let dir = directory_of g (pieces g d) i in (dir.parent, dir.names)

-- This is the inode of a directory in order.
pub record IsDirectoryAt (g : Geometry) (v : Pieces) (n : ℕ) (i : Inode) : Type 0 where
  pub loaded : i ≡ v.inodes n
  pub sound : IsSoundDirectory g v n

-- This is the inode of a directory that the user may enter.
pub record Entered (g : Geometry) (d : Disk) (t : Tree) (user : User) (here : ℕ) (i : Inode) : Type 0 where
  pub loaded : i ≡ (pieces g d).inodes here
  pub directory : IsTrue (is_directory_inode g (pieces g d) here)
  pub entered : enter user (t.nodes here) ≡ Ok (entries_in g d i)

-- what entering a node answers: the inode of the directory, or the refusal
abbrev pub Enters : Geometry → Disk → Tree → User → ℕ → Result Inode Errno → Type 0
Enters g d t user here (Ok i) = Entered g d t user here i
Enters g d t user here (Err e) = enter user (t.nodes here) ≡ Err e

-- the node to which a part leads from a node
abbrev pub step : Tree → User → ℕ → Name → Result ℕ Errno
step t user here part = enter user (t.nodes here) >>= λ dir. next here dir.0 dir.1 part

-- a node of the tree, if it is one
abbrev pub IsThere : Tree → Result ℕ Errno → Type 0
IsThere t r = IfOk r (λ n. IsTrue (is_some (t.nodes n)))

-- the step's answer, which is a node of the tree
pub record StepsTo (t : Tree) (user : User) (here : ℕ) (part : Name) (r : Result ℕ Errno) : Type 0 where
  pub answer : r ≡ step t user here part
  pub there : IsThere t r

-- where a walk begins, which is a node of the tree
pub record Begins (t : Tree) (user : User) (start : Start) (r : Result ℕ Errno) : Type 0 where
  pub answer : r ≡ first_node t user start
  pub there : IsThere t r

-- the walk's answer, which is a node of the tree
pub record Walks (t : Tree) (user : User) (way : Way) (r : Result ℕ Errno) : Type 0 where
  pub answer : r ≡ walk_parts t user way
  pub there : IsThere t r

-- the target of a node, the first so many of these bytes, or that it has none
abbrev pub TellsTarget : Tree → ℕ → List ℕ → Result (Option ℕ) Errno → Type 0
TellsTarget t n bytes (Ok None) = target_of (t.nodes n) ≡ None
TellsTarget t n bytes (Ok (Some k)) = target_of (t.nodes n) ≡ Some (take k bytes)
TellsTarget t n bytes (Err e) = ⊥

-- the walk of some parts from a stand
abbrev pub from : Tree → User → Stand → List Name → Result ℕ Errno
from t user s parts = walk_from t user (follow_links t user s.links) s.here parts

-- The parts lead from one stand to another, whatever follows them.
pub record Arrives (t : Tree) (user : User) (first : Stand) (parts : List Name) (r : Result Stand Errno) : Type 0 where
  pub leads : (rest : List Name) → from t user first (parts ++ rest) ≡ (r >>= λ s. from t user s rest)
  pub there : IfOk r (λ s. IsTrue (is_some (t.nodes s.here)))
