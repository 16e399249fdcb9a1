-- The moves of a rename, by what stands at the new name.
use Rattle.std.specs.Prelude.{◌≡◌, ◌≢◌, ℕ, Bool, Option, None, Some, nat_le}
use Rattle.layout.specs.declared.Geometry.{Geometry}
use Rattle.tree.specs.Tree.{Node, Tree}
use Rattle.tree.specs.Space.{data_zones, zones_used}
use Rattle.volume.specs.Reading.{Disk}
use Rattle.volume.specs.Pieces.{pieces}
use Rattle.volume.specs.Holds.{HoldsVolume}
use Rattle.descriptors.specs.Files.{Files}
use Rattle.inode_operations.specs.declared.moves.Move.{Move}
use Rattle.inode_operations.specs.Whole.{MayMoveOver, MayMoveTo, MayMoveWithin, moved}
use Rattle.inode_operations.specs.Replaced.{MayDropReplaced, without_it}
use Rattle.calls_rename.specs.MoveAsked.{IsAsked}
use Rattle.calls_rename.specs.declared.asked.Asked.{Asked}

-- the tree after a move over node q, and without what is left of that
abbrev pub moved_onto : Move → ℕ → Tree → Tree
moved_onto m q t = without_it m.now q m.to m.is_directory (moved m t)

-- the tree after the move, by what is at the new name
abbrev pub carried : Move → Option ℕ → Tree → Tree
carried m None t = moved m t
carried m (Some q) t = moved_onto m q t

-- a move to a free name, of the same directory or of another
pub record MayMoveAside (g : Geometry) (m : Move) (t : Tree) : Type 0 where
  pub within : m.from ≡ m.to → MayMoveWithin m t
  pub other : m.from ≢ m.to → MayMoveTo g m t

-- a move over a name, after which what had it may be dropped
pub record MayMoveOnto (f : Files) (m : Move) (q : ℕ) (t : Tree) : Type 0 where
  pub over : MayMoveOver m t
  pub dropped : MayDropReplaced f m.now q m.to m.is_directory (moved m t)

-- the one or the other
abbrev pub MayCarry : Geometry → Files → Move → Option ℕ → Tree → Type 0
MayCarry g f m None t = MayMoveAside g m t
MayCarry g f m (Some q) t = MayMoveOnto f m q t

-- A tree is held of which the move is asked, and the inodes are those of the two directories.
pub record IsReady (g : Geometry) (d : Disk) (t : Tree) (x : Asked) : Type 0 where
  pub holds : HoldsVolume g d t
  pub from_node : Node
  pub to_node : Node
  pub node : Node
  pub asked : IsAsked g t x.what x.there from_node to_node node
  pub from : x.from ≡ (pieces g d).inodes x.what.from
  pub to : x.to ≡ (pieces g d).inodes x.what.to

-- some tree is one
pub record IsSomeReady (g : Geometry) (d : Disk) (x : Asked) : Type 0 where
  pub tree : Tree
  pub is : IsReady g d tree x

-- whether the tree after it fits
abbrev pub SaysFits : Geometry → Disk → Asked → Bool → Type 0
SaysFits g d x b = (t : Tree) → IsReady g d t x → b ≡ nat_le (zones_used g (carried x.what x.there t)) (data_zones g)
