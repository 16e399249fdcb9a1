-- Where the tree after a write fits, each page on the way has room.
use Rattle.std.specs.Prelude.{◌≡◌, ℕ, ◌+◌, ◌<◌, ◌≤◌, true, false, IsTrue, Option, Some}
use Rattle.layout.specs.declared.Geometry.{Geometry}
use Rattle.layout.specs.Places.{IsGeometry}
use Rattle.lemmas.specs.Sums.{put, sum_below}
use Rattle.tree.specs.Tree.{File, Node, is_file}
use Rattle.tree.specs.ZonesNeeded.{page_limit}
use Rattle.tree.specs.Space.{numbers_in_zone, data_zones, zones_of}
use Rattle.volume.specs.Pieces.{Pieces}
use Rattle.volume.specs.Nodes.{file_of, is_marked, is_directory_mode, nodes_of}
use Rattle.volume.specs.Holds.{IsSound}
use Rattle.zone.specs.ZoneSteps.{marked_in}
use Rattle.zone.specs.Missing.{missing}

-- the zones that these nodes take
abbrev pub taken_by : Geometry → (ℕ → Option Node) → ℕ
taken_by g nodes = sum_below (λ m. zones_of g (nodes m)) (g.inodes + 1)

-- the nodes of a sound volume take the zones that are marked
abbrev pub NodesTakeMarked : Type 0
NodesTakeMarked = (g : Geometry) (v : Pieces) → IsGeometry g → IsSound g v → taken_by g (nodes_of g v) ≡ marked_in g v

-- A page of a file has room, where the nodes fit in which this file and perhaps more pages of it are held.
abbrev pub PageHasRoom : Type 0
PageHasRoom = (g : Geometry) (v : Pieces) (n p : ℕ) (f : File) (x : Node) → IsGeometry g → IsSound g v → IsTrue (is_marked g v n) → is_directory_mode (v.inodes n).mode ≡ false
    → p < page_limit (numbers_in_zone g)
    → x.body ≡ is_file f → ((q : ℕ) → put (file_of g v (v.inodes n)).held p true q ≡ true → f.held q ≡ true)
    → taken_by g (put (nodes_of g v) n (Some x)) ≤ data_zones g
    → marked_in g v + missing g v n 4 0 p ≤ data_zones g
