-- Moves to another directory, and room for them.
use Rattle.std.specs.Prelude.{◌≡◌, ◌≢◌, Bool, None, nat_le}
use Rattle.layout.specs.declared.Geometry.{Geometry}
use Rattle.tree.specs.Tree.{Node, Tree}
use Rattle.tree.specs.Space.{data_zones, zones_used}
use Rattle.volume.specs.Reading.{Disk}
use Rattle.volume.specs.Pieces.{pieces}
use Rattle.volume.specs.Holds.{HoldsVolume}
use Rattle.inode_operations.specs.Whole.{moved}
use Rattle.calls_rename.specs.declared.asked.Asked.{Asked}
use Rattle.calls_rename.specs.MoveAsked.{IsAsked}

-- A tree is held of which the move is asked, to a name that another directory hasn't, and the inodes are those of the two directories.
pub record IsElsewhere (g : Geometry) (d : Disk) (t : Tree) (x : Asked) : Type 0 where
  pub holds : HoldsVolume g d t
  pub from_node : Node
  pub to_node : Node
  pub node : Node
  pub asked : IsAsked g t x.what None from_node to_node node
  pub from : x.from ≡ (pieces g d).inodes x.what.from
  pub to : x.to ≡ (pieces g d).inodes x.what.to
  pub apart : x.what.from ≢ x.what.to

-- some tree is one
pub record CanMove (g : Geometry) (d : Disk) (x : Asked) : Type 0 where
  pub tree : Tree
  pub is : IsElsewhere g d tree x

-- whether the tree after it fits
abbrev pub TellsRoom : Geometry → Disk → Asked → Bool → Type 0
TellsRoom g d x fits = (t : Tree) → IsElsewhere g d t x → fits ≡ nat_le (zones_used g (moved x.what t)) (data_zones g)
