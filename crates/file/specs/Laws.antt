-- Laws that lead from this layer to the client calls.
use Rattle.std.specs.Prelude.{◌≡◌, ◌↔◌, ◌≤◌, ℕ, List, length, take, Bool, Some, IsTrue}
use Rattle.layout.specs.declared.Geometry.{Geometry}
use Rattle.layout.specs.Places.{IsGeometry}
use Rattle.lemmas.specs.Sums.{put}
use Rattle.tree.specs.Tree.{File, Node}
use Rattle.tree.specs.FileCalls.{bytes_read}
use Rattle.tree.specs.ZonesNeeded.{zones_needed}
use Rattle.tree.specs.Space.{numbers_in_zone, data_zones, zones_of, held_of}
use Rattle.volume.specs.Pieces.{Pieces}
use Rattle.volume.specs.Nodes.{is_marked, nodes_of}
use Rattle.volume.specs.Holds.{IsSound}
use Rattle.zone.specs.Room.{taken_by}
use Rattle.file.specs.Reading.{HasFileBytes, read_count}
use Rattle.file.specs.PageChanges.{file_at}
use Rattle.file.specs.Changing.{HasZonesFor}

-- The bytes that were read into a slice are those that a read of as many bytes as it is long gives.
abbrev pub BytesAreRead : Type 0
BytesAreRead = (f : File) (at : ℕ) (bytes : List ℕ) → HasFileBytes f at (read_count f.size at (length bytes)) bytes
    → take (read_count f.size at (length bytes)) bytes ≡ bytes_read f at (length bytes)

-- In a sound volume a node takes the zones of the pages that its inode holds, a directory too.
abbrev pub NodeTakesHeld : Type 0
NodeTakesHeld = (g : Geometry) (v : Pieces) (n : ℕ) → IsGeometry g → IsSound g v → IsTrue (is_marked g v n)
    → zones_of g (nodes_of g v n) ≡ zones_needed (numbers_in_zone g) (file_at g v n).held

-- The nodes with another at n fit exactly where there are zones enough for that node's pages.
abbrev pub RoomIsSpace : Type 0
RoomIsSpace = (g : Geometry) (v : Pieces) (n : ℕ) (x : Node) (held : ℕ → Bool) → IsGeometry g → IsSound g v → IsTrue (is_marked g v n)
    → held_of g x.body ≡ held → (taken_by g (put (nodes_of g v) n (Some x)) ≤ data_zones g) ↔ HasZonesFor g v n held
