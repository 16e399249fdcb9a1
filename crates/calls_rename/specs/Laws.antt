-- Moves that always fit, and what they ask for.
use Rattle.std.specs.Prelude.{◌≡◌, ◌≤◌, ◌&&◌, ℕ, Bool, false, None, Some, IsTrue}
use Rattle.layout.specs.declared.Geometry.{Geometry}
use Rattle.layout.specs.Places.{IsGeometry}
use Rattle.tree.specs.Names.{is_name}
use Rattle.tree.specs.Tree.{Node, Tree, is_dir}
use Rattle.tree.specs.Answers.{Effect}
use Rattle.tree.specs.NameCalls.{is_same, is_within}
use Rattle.tree.specs.Space.{data_zones, zones_used}
use Rattle.volume.specs.Reading.{Disk}
use Rattle.volume.specs.Pieces.{pieces}
use Rattle.volume.specs.Nodes.{node_of}
use Rattle.volume.specs.Holds.{HoldsVolume}
use Rattle.inode_operations.specs.declared.moves.Move.{Move}
use Rattle.inode_operations.specs.Replaced.{without_it}
use Rattle.inode_operations.specs.Whole.{moved, moved_within}
use Rattle.calls_rename.specs.declared.asked.Asked.{Asked}
use Rattle.calls_rename.specs.Asked.{AreFound, Rest, moving_at}
use Rattle.calls_rename.specs.MoveAsked.{IsAsked}

-- the tree after a move within a directory
abbrev pub FitsWithin : Type 0
FitsWithin = (g : Geometry) (d : Disk) (t : Tree) (m : Move) (from to node : Node) → IsGeometry g → HoldsVolume g d t
    → IsAsked g t m None from to node → m.from ≡ m.to → zones_used g (moved_within m t) ≤ data_zones g

-- the tree after one over a name that is there
abbrev pub FitsOver : Type 0
FitsOver = (g : Geometry) (d : Disk) (t : Tree) (m : Move) (q : ℕ) (from to node : Node) → IsGeometry g → HoldsVolume g d t
    → IsAsked g t m (Some q) from to node → zones_used g (moved m t) ≤ data_zones g

-- and that without what had the name, be it a directory or a file
abbrev pub FitsDropped : Type 0
FitsDropped = (g : Geometry) (d : Disk) (t : Tree) (m : Move) (q : ℕ) (directory : Bool) (from to node : Node) → IsGeometry g → HoldsVolume g d t
    → IsAsked g t m (Some q) from to node → zones_used g (without_it m.now q m.to directory (moved m t)) ≤ data_zones g

-- what a rename finds is what its moves ask for
abbrev pub FoundIsAsked : Type 0
FoundIsAsked = (g : Geometry) (d : Disk) (t : Tree) (on : Rest → Effect) (x : Asked) → HoldsVolume g d t → AreFound g d t on x → IsTrue (is_name x.what.new.now)
    → is_same x.what.number x.there ≡ false → (is_dir (moving_at g d x) && is_within g t x.what.to x.what.number) ≡ false
    → IsAsked g t x.what x.there (node_of g (pieces g d) x.from) (node_of g (pieces g d) x.to) (moving_at g d x)
