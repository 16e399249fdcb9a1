-- The verdict on a version 2 image.
use Rattle.std.specs.Prelude.{ℕ, List}
use Rattle.layout.specs.declared.Geometry.{Geometry}
use Rattle.volume.specs.Reading.{disk_of}
use Rattle.volume.specs.Pieces.{pieces}
use Rattle.volume.specs.Verdict.{Verdict}
use Rattle.fsck.specs.Form.{version_2}
use Rattle.fsck.specs.Verdict.{verdict_of_pieces}

-- the verdict on a version 2 image of this geometry
abbrev pub old_verdict_of : Geometry → List ℕ → Verdict
old_verdict_of g image = verdict_of_pieces version_2 g (pieces g (disk_of g image))
