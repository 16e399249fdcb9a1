-- A version 2 image with version 3's superblock.
use Rattle.std.specs.Prelude.{◌≡◌, ℕ, List, Ok}
use Rattle.layout.specs.declared.Geometry.{Geometry}
use Rattle.layout.specs.Places.{geometry_of}
use Rattle.volume.specs.Reading.{disk_of}
use Rattle.volume.specs.Pieces.{pieces}

-- the bytes are read as a version 3 volume of this geometry, and say the pieces that the image says
pub record IsStamped (g : Geometry) (image bytes : List ℕ) : Type 0 where
  pub parsed : geometry_of bytes ≡ Ok g
  pub pieces : pieces g (disk_of g bytes) ≡ pieces g (disk_of g image)
