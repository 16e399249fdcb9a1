-- What mounting says of the image that the link's disk holds, where replies are true.
use Rattle.std.specs.Prelude.{◌≡◌, ◌≢◌, ℕ, ◌*◌, List, [], true, Err}
use Rattle.layout.specs.declared.Geometry.{Geometry}
use Rattle.layout.specs.declared.LayoutRefusal.{LayoutRefusal}
use Rattle.layout.specs.declared.LayoutRefusal.TheVariants.{DoesNotFit}
use Rattle.layout.specs.Places.{geometry_of, superblock_geometry}
use Rattle.volume.specs.Verdict.{Found, verdict_of}
use Rattle.records.specs.Disk.{Contents, HasTrueReplies, bytes_read, is_read}
use Rattle.records.specs.Told.{Told}
use Rattle.records.specs.Acts.{Act, KeepsRules, empty_outbox, marks_after}
use Rattle.records.specs.Area.{Area}
use Rattle.records.specs.Mount.{AreRead, MountRefused, MountRefusal, Mounting, Layout, Inconsistent, OnlyReads, first_bytes, geometry_read}

-- where only reads became pending, what was read with true replies are the image's bytes
abbrev pub ReadsAlone : Type 0
ReadsAlone =
    (area : Area) (acts : List Act) (image : Contents) → OnlyReads acts → KeepsRules area acts [] empty_outbox
    → HasTrueReplies image (marks_after acts []) → (place : ℕ) → is_read (marks_after acts []) place ≡ true
    → bytes_read (marks_after acts []) place ≡ image place

-- the sizes that an image's superblock gives
abbrev pub sizes_in : Contents → Geometry
sizes_in image = superblock_geometry (first_bytes image 2048)

-- the bytes of the volume in an image, as many as these say
abbrev pub volume_of : Contents → List ℕ
volume_of image = let g = sizes_in image in first_bytes image (g.zones * g.block_size)

-- What a refusal says of an image: its superblock is refused, the volume's length apart; or it isn't, and the check finds this in the volume.
-- Of the others nothing is said.
abbrev pub IsSaidOf : Contents → MountRefusal → Type 0
IsSaidOf image (Layout refusal) = (geometry_of (first_bytes image 2048) ≡ Err refusal) × (refusal ≢ DoesNotFit)
IsSaidOf image (Inconsistent finding) =
    ((refusal : LayoutRefusal) → geometry_of (first_bytes image 2048) ≡ Err refusal → refusal ≡ DoesNotFit)
    × (verdict_of (volume_of image) ≡ Found finding)
IsSaidOf image _ = Unit {0}

-- over true replies a refused mount is refused by the image
abbrev pub RefusedByImage : Type 0
RefusedByImage =
    (minor frames : ℕ) (before after : List Told) (refusal : MountRefusal) (image : Contents)
    → (r : MountRefused minor frames before refusal after) → HasTrueReplies image (marks_after r.acts []) → IsSaidOf image refusal

-- over true replies the sizes that were read are the image's
abbrev pub SizesOfImage : Type 0
SizesOfImage =
    (minor : ℕ) (before after : List Told) (acts : List Act) (image : Contents) → Mounting minor before acts after
    → HasTrueReplies image (marks_after acts []) → AreRead (marks_after acts []) 2048 → geometry_read (marks_after acts []) ≡ sizes_in image
