-- What the media hold at each moment of a run.
use Rattle.std.specs.Prelude.{◌≡◌, ℕ, ◌+◌, ◌*◌, ◌<◌, List, length, false, slice_index}
use Rattle.layout.specs.declared.Geometry.{Geometry}
use Rattle.media.specs.Contents.{sector}
use Rattle.records.specs.Area.{IsHeadOrTail}
use Rattle.records.specs.Disk.{disk_after, is_unsure}
use Rattle.records.specs.Opening.{Range, volume_in}
use Rattle.schedule.specs.Headline.{IsOutside}
use Rattle.schedule.specs.Noted.{marks_in}
use Rattle.simulated_link.specs.Moments.{Moment}
use Rattle.world.specs.Exact.{media_with}

-- The media of this moment are as large as the image. They hold, of the volume in this range, what the record of this moment says was
-- written, in each sector that isn't unsure then. The volume's first two blocks, what lies behind its last zone, and all outside of it are
-- those of the image.
pub record MediaHoldAt (g : Geometry) (range : Range) (image : List ℕ) (m : Moment) : Type 0 where
  pub size : length m.run.scene.disks.media.sectors ≡ length (media_with image).sectors
  pub inside : (n k : ℕ) → n < range.count → k < 512 → is_unsure (marks_in m.run.scene.noted) n ≡ false
      → slice_index (sector m.run.scene.disks.media (range.first + n)) k
      ≡ disk_after (volume_in range image) (marks_in m.run.scene.noted) (512 * n + k)
  pub ends : (n k : ℕ) → n < range.count → k < 512 → IsHeadOrTail g (512 * n + k)
      → slice_index (sector m.run.scene.disks.media (range.first + n)) k ≡ volume_in range image (512 * n + k)
  pub outside : (n : ℕ) → IsOutside range n → sector m.run.scene.disks.media n ≡ sector (media_with image) n
