-- A law that leads from room for a write and for other zones beside to the client calls.
use Rattle.std.specs.Prelude.{◌↔◌, ◌≤◌, ◌≡◌, ℕ, ◌+◌, Bool, Some, IsTrue}
use Rattle.layout.specs.declared.Geometry.{Geometry}
use Rattle.layout.specs.Places.{IsGeometry}
use Rattle.lemmas.specs.Sums.{put}
use Rattle.tree.specs.Tree.{Node}
use Rattle.tree.specs.Space.{data_zones, held_of}
use Rattle.volume.specs.Pieces.{Pieces}
use Rattle.volume.specs.Nodes.{is_marked, nodes_of}
use Rattle.volume.specs.Holds.{IsSound}
use Rattle.zone.specs.Room.{taken_by}
use Rattle.file.specs.Room.{HasZonesBeside}

-- The nodes with another at n fit with other zones beside exactly where there are zones enough for that node's pages and for those.
abbrev pub RoomBesideIsSpace : Type 0
RoomBesideIsSpace = (g : Geometry) (v : Pieces) (n : ℕ) (x : Node) (held : ℕ → Bool) (others : ℕ) → IsGeometry g → IsSound g v → IsTrue (is_marked g v n)
    → held_of g x.body ≡ held → (taken_by g (put (nodes_of g v) n (Some x)) + others ≤ data_zones g) ↔ HasZonesBeside g v n others held
