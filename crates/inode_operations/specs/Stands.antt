-- What stands between the steps of a call.
use Rattle.std.specs.Prelude.{◌≡◌, ℕ, Option, Some, true}
use Rattle.layout.specs.declared.Geometry.{Geometry}
use Rattle.layout.specs.Places.{IsGeometry}
use Rattle.lemmas.specs.Sums.{put}
use Rattle.tree.specs.Tree.{Node, Tree, is_dir, size_of}
use Rattle.tree.specs.IsTree.{IsTree}
use Rattle.volume.specs.Reading.{Disk}
use Rattle.volume.specs.Pieces.{pieces}
use Rattle.volume.specs.Nodes.{nodes_of}
use Rattle.volume.specs.Holds.{HoldsVolume, IsSound}
use Rattle.block_store.specs.Volume.{SameHead}
use Rattle.directory.specs.Names.{IsOfDirectory}
use Rattle.inode_operations.specs.Steps.{BecomesAt, IsOfNode, node_at}

-- On the way from one disk to another: the blocks before the maps are the same, the volume is sound, and its nodes are these.
pub record Stands (g : Geometry) (d e : Disk) (all : ℕ → Option Node) : Type 0 where
  pub head : SameHead d e
  pub sound : IsSound g (pieces g e)
  pub nodes : nodes_of g (pieces g e) ≡ all

-- at first the nodes are those of the tree that is held
abbrev pub NothingIsDone : Type 0
NothingIsDone = (g : Geometry) (d : Disk) (t : Tree) → HoldsVolume g d t → Stands g d d t.nodes

-- a step changes one
abbrev pub StepIsDone : Type 0
StepIsDone = (g : Geometry) (d e f : Disk) (nodes : ℕ → Option Node) (n : ℕ) (x : Option Node) → Stands g d e nodes
    → SameHead e f → BecomesAt g (pieces g e) (pieces g f) n x → Stands g d f (put nodes n x)

-- the node of a marked inode, which says its size
pub record NodeIs (g : Geometry) (e : Disk) (n : ℕ) (x : Node) : Type 0 where
  pub of : IsOfNode g (pieces g e) n
  pub node : node_at g (pieces g e) n ≡ x
  pub size : ((pieces g e).inodes n).size ≡ size_of x.body

-- a node that stands is one
abbrev pub NodeStands : Type 0
NodeStands = (g : Geometry) (d e : Disk) (nodes : ℕ → Option Node) (n : ℕ) (x : Node) → IsGeometry g → Stands g d e nodes
    → nodes n ≡ Some x → NodeIs g e n x

-- a directory that stands is one of a sound volume
abbrev pub DirectoryStands : Type 0
DirectoryStands = (g : Geometry) (d e : Disk) (nodes : ℕ → Option Node) (n : ℕ) (x : Node) → IsGeometry g → Stands g d e nodes
    → nodes n ≡ Some x → is_dir x ≡ true → IsOfDirectory g (pieces g e) n

-- in the end a tree is held that has the nodes
abbrev pub HoldsAtEnd : Type 0
HoldsAtEnd = (g : Geometry) (d e : Disk) (nodes : ℕ → Option Node) (t u : Tree) → IsGeometry g → HoldsVolume g d t
    → Stands g d e nodes → u.nodes ≡ nodes → IsTree g u → HoldsVolume g e u
