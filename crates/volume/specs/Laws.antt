-- Laws of the volume.
use Rattle.std.specs.Prelude.{◌≡◌, ◌≤◌, ◌+◌, ℕ, List}
use Rattle.layout.specs.declared.Geometry.{Geometry}
use Rattle.layout.specs.Places.{IsGeometry}
use Rattle.lemmas.specs.Sums.{count_below}
use Rattle.tree.specs.Tree.{Tree}
use Rattle.tree.specs.Space.{zones_used, data_zones}
use Rattle.volume.specs.Reading.{Disk}
use Rattle.volume.specs.Pieces.{pieces}
use Rattle.volume.specs.Holds.{Holds}
use Rattle.volume.specs.Verdict.{CleanMeansHeld, HoldsClosed}

-- the verdict on an image is Clean exactly where the image holds a tree without open files
abbrev pub CleanIsATree : Type 0
CleanIsATree = (image : List ℕ) → CleanMeansHeld image

-- how many data zones the zone map marks; bit 0 is of none
abbrev pub marked_zones : Geometry → Disk → ℕ
marked_zones g d = count_below (λ k. (pieces g d).zone_map (k + 1)) (data_zones g)

-- a tree that a volume holds, open files or none, uses as many zones as the zone map marks
abbrev pub UsedZonesAreMarked : Type 0
UsedZonesAreMarked = (g : Geometry) (d : Disk) (t : Tree) → IsGeometry g → Holds g d t → zones_used g t ≡ marked_zones g d

-- so it leaves room: it uses no more zones than the volume has
abbrev pub HeldLeavesRoom : Type 0
HeldLeavesRoom = (g : Geometry) (d : Disk) (t : Tree) → IsGeometry g → Holds g d t → zones_used g t ≤ data_zones g

-- and so does the tree that an image holds
abbrev pub ImageLeavesRoom : Type 0
ImageLeavesRoom = (image : List ℕ) (t : Tree) (h : HoldsClosed image t) → zones_used h.geometry t ≤ data_zones h.geometry
