-- What a release makes of a volume.
use Rattle.std.specs.Prelude.{◌≡◌, ◌≢◌, ◌⊎◌, ℕ, ◌+◌, List, Some, Ok}
use Rattle.layout.specs.declared.Geometry.{Geometry}
use Rattle.layout.specs.Places.{geometry_of}
use Rattle.tree.specs.Tree.{Tree}
use Rattle.volume.specs.Reading.{disk_of}
use Rattle.volume.specs.Pieces.{pieces}
use Rattle.volume.specs.Nodes.{nodes_of}
use Rattle.volume.specs.Holds.{Holds}
use Rattle.volume.specs.Verdict.{Verdict, Clean, HoldsClosed, found, verdict_of}
use Rattle.release.specs.Nameless.{closed_of, unlinked_below}
use Rattle.release.specs.Place.{IsOutsideKept, bytes_at, place_in}

-- a check finds a wrong count of links before all else
abbrev pub IsFoundBy : Verdict → Type 0
IsFoundBy verdict = (place : ℕ) × (verdict ≡ found 16 place)

-- that of a volume does
abbrev pub IsFoundByLinks : List ℕ → Type 0
IsFoundByLinks volume = IsFoundBy (verdict_of volume)

-- how many nodes of a volume of this geometry have no link
abbrev pub unlinked_in : Geometry → List ℕ → ℕ
unlinked_in g volume = unlinked_below (nodes_of g (pieces g (disk_of g volume))) (g.inodes + 1)

-- whatever tree it holds, it holds the same one after without the nodes that have no link
abbrev pub KeepsLinked : List ℕ → List ℕ → Type 0
KeepsLinked old new =
    (g : Geometry) (t : Tree) → geometry_of old ≡ Ok g → Holds g (disk_of g old) t → (h : HoldsClosed new (closed_of t)) × (h.geometry ≡ g)

-- A volume before and after: the check found a wrong count of links, and finds nothing any more. All nodes without a link were given back.
pub record IsReleased (count : ℕ) (old new : List ℕ) : Type 0 where
  pub was : IsFoundByLinks old
  pub is : verdict_of new ≡ Clean
  pub many : (g : Geometry) → geometry_of old ≡ Ok g → count ≡ unlinked_in g old
  pub tree : KeepsLinked old new

-- it holds a tree, with open files or without
abbrev pub HoldsTree : List ℕ → Type 0
HoldsTree volume = (g : Geometry) × (t : Tree) × (geometry_of volume ≡ Ok g) × Holds g (disk_of g volume) t

-- So many nodes of the volume of a minor are given back in an image, and nothing else of it changes.
pub record IsReleasedIn (minor count : ℕ) (old new : List ℕ) : Type 0 where
  pub place : ℕ × ℕ
  pub there : place_in old minor ≡ Some place
  pub outside : IsOutsideKept place old new
  pub volume : IsReleased count (bytes_at place old) (bytes_at place new)

-- that, or the image stays as it is, and none is
abbrev pub Releases : ℕ → ℕ → List ℕ → List ℕ → Type 0
Releases minor count old new = ((count ≡ 0) × (new ≡ old)) ⊎ IsReleasedIn minor count old new

-- the volume of a minor holds a tree, and the check doesn't say that it is clean
pub record MustRelease (minor : ℕ) (image : List ℕ) : Type 0 where
  pub place : ℕ × ℕ
  pub there : place_in image minor ≡ Some place
  pub holds : HoldsTree (bytes_at place image)
  pub unclean : verdict_of (bytes_at place image) ≢ Clean
