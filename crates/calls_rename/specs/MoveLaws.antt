-- The moves that may be made then.
use Rattle.std.specs.Prelude.{◌≡◌, ◌≢◌, ◌≤◌, ℕ, None, Some}
use Rattle.layout.specs.declared.Geometry.{Geometry}
use Rattle.layout.specs.Places.{IsGeometry}
use Rattle.tree.specs.Tree.{Node, Tree}
use Rattle.tree.specs.Space.{data_zones, zones_used}
use Rattle.descriptors.specs.Files.{Files, HasFiles}
use Rattle.inode_operations.specs.declared.moves.Move.{Move}
use Rattle.inode_operations.specs.Whole.{MayMoveOver, MayMoveTo, MayMoveWithin, moved}
use Rattle.inode_operations.specs.Replaced.{MayDropReplaced}
use Rattle.calls_rename.specs.MoveAsked.{IsAsked}

-- to a new name of the same directory
abbrev pub MayMoveInDirectory : Type 0
MayMoveInDirectory = (g : Geometry) (t : Tree) (m : Move) (from to node : Node) → IsGeometry g → IsAsked g t m None from to node
    → m.from ≡ m.to → MayMoveWithin m t

-- to one of another, where the tree after it fits
abbrev pub MayMoveWhereItFits : Type 0
MayMoveWhereItFits = (g : Geometry) (t : Tree) (m : Move) (from to node : Node) → IsGeometry g → IsAsked g t m None from to node
    → m.from ≢ m.to → zones_used g (moved m t) ≤ data_zones g → MayMoveTo g m t

-- over a name that is there
abbrev pub MayMoveOnto : Type 0
MayMoveOnto = (g : Geometry) (t : Tree) (m : Move) (q : ℕ) (from to node : Node) → IsGeometry g → IsAsked g t m (Some q) from to node
    → MayMoveOver m t

-- and then what stood there may be dropped
abbrev pub MayDropOther : Type 0
MayDropOther = (g : Geometry) (t : Tree) (m : Move) (q : ℕ) (from to node : Node) (f : Files) → IsGeometry g
    → IsAsked g t m (Some q) from to node → HasFiles f t → MayDropReplaced f m.now q m.to m.is_directory (moved m t)
