-- What a verdict says.
use Rattle.std.specs.Prelude.{◌≡◌, ℕ, List, Ok}
use Rattle.layout.specs.Places.{geometry_of}
use Rattle.tree.specs.Tree.{Tree}
use Rattle.volume.specs.Verdict as volume
use Rattle.volume.specs.Verdict.{HoldsClosed}
use Rattle.fsck.specs.declared.verdict.Verdict.{Verdict}
use Rattle.fsck.specs.declared.verdict.Verdict.TheVariants.{Clean, Found}

-- the verdict in the volume's words
abbrev pub shown : Verdict → volume.Verdict
shown (Clean c) = volume.Clean
shown (Found f) = volume.Found f

-- a clean image has the sizes that the verdict holds
abbrev pub HasItsGeometry : List ℕ → Verdict → Type 0
HasItsGeometry image (Clean c) = geometry_of image ≡ Ok c.geometry
HasItsGeometry image (Found f) = Unit {0}

-- the verdict is clean exactly where the image holds a tree without open files
abbrev pub TellsWhetherTree : List ℕ → Verdict → Type 0
TellsWhetherTree image (Clean c) = (t : Tree) × HoldsClosed image t
TellsWhetherTree image (Found f) = (t : Tree) → ¬ (HoldsClosed image t)
