-- The zones that a move to another directory takes, and gives back.
use Rattle.std.specs.Prelude.{◌≡◌, ◌≢◌, ◌+◌, ◌-◌, ℕ, None}
use Rattle.layout.specs.declared.Geometry.{Geometry}
use Rattle.layout.specs.Places.{IsGeometry}
use Rattle.tree.specs.Tree.{Node, Tree, size_of}
use Rattle.tree.specs.Space.{zones_used}
use Rattle.volume.specs.Reading.{Disk}
use Rattle.volume.specs.Pieces.{pieces}
use Rattle.volume.specs.Holds.{HoldsVolume}
use Rattle.file.specs.Room.{TakesMore}
use Rattle.calls_rename.specs.Sizes.{zones_of_size}
use Rattle.inode_operations.specs.declared.moves.Move.{Move}
use Rattle.inode_operations.specs.Whole.{moved}
use Rattle.calls_rename.specs.MoveAsked.{IsAsked}

-- `more` zones are taken for an entry's bytes at the end of the one, and `less` given back with the last 64 bytes of the other.
abbrev pub MoveTakes : Type 0
MoveTakes = (g : Geometry) (d : Disk) (t : Tree) (m : Move) (from to node : Node) (less more : ℕ) → IsGeometry g
    → HoldsVolume g d t → IsAsked g t m None from to node → m.from ≢ m.to
    → zones_of_size g (size_of from.body) ≡ zones_of_size g (size_of from.body - 64) + less
    → TakesMore g (pieces g d) m.to (size_of to.body) 64 more
    → zones_used g (moved m t) + less ≡ zones_used g t + more
