-- What drivers of one volume leave of the media.
use Rattle.std.specs.Prelude.{◌≡◌, ℕ, ◌≤◌, ◌<◌, ◌+◌, ◌-◌, ◌/◌, List, length, Bool, false, Option, Some, None, IfSome}
use Rattle.std.specs.List.{concat}
use Rattle.media.specs.Contents.{IsWhole, MediaState, sector}
use Rattle.records.specs.Opening.{Opening}
use Rattle.message.specs.declared.BlockReply.{BlockReply}
use Rattle.bdev.specs.declared.Step.{Step}
use Rattle.bdev.specs.declared.Step.TheVariants as step
use Rattle.bdev.specs.declared.Stepped.{Stepped}
use Rattle.bdev.specs.declared.Stepped.TheVariants.{Working, Idle, Done, Failed}
use Rattle.bdev.specs.DriverState.{DriverState}
use Rattle.true_replies.specs.State.{OutsideHolds}
use Rattle.true_replies.specs.Events.{opening_media}
use Rattle.changes.specs.Units.{is_marked, with_mark}

-- the media have as many sectors as were handed in, and outside of the volume each sector is as it was handed in
pub record KeepsOutside (v : Opening) (media : MediaState) : Type 0 where
  pub number : length media.sectors ≡ length (opening_media v).sectors
  pub outside : OutsideHolds v (opening_media v) media

-- the unit of eight sectors, counted from a volume's first one on, that has this sector of the media
abbrev pub unit_in : ℕ → ℕ → ℕ
unit_in first s = (s - first) / 8

-- The media have as many sectors as were handed in; each outside of the volume is as it was handed in, and each of the volume's whose unit
-- isn't marked.
pub record KeepsBut (v : Opening) (written : List Bool) (media : MediaState) : Type 0 where
  pub outside : KeepsOutside v media
  pub unmarked : (n : ℕ) → n < v.count → is_marked written (n / 8) ≡ false
      → sector media (v.first + n) ≡ sector (opening_media v) (v.first + n)

-- the bytes of media that have as many sectors as were handed in, each of 512 bytes, and outside of the volume each as it was handed in
pub record IsImageOutside (v : Opening) (image : List ℕ) : Type 0 where
  pub media : MediaState
  pub bytes : image ≡ concat media.sectors
  pub whole : IsWhole media.sectors
  pub outside : KeepsOutside v media

-- sector s of the media is one of the volume's
abbrev pub IsInVolume : Opening → ℕ → Type 0
IsInVolume v s = (v.first ≤ s) × (s < v.first + v.count)

-- a driver names no sector as the next to be written, or one of the volume's
abbrev pub StaysInVolume : Opening → DriverState → Type 0
StaysInVolume v d = IfSome d.in_work (IsInVolume v)

-- the unit of the sector that a step may write is marked too, if it names one
abbrev pub written_for : ℕ → Option ℕ → List Bool → List Bool
written_for first None written = written
written_for first (Some s) written = with_mark written (unit_in first s)

-- the step of a driver that came so far, whose answer, where it is done, stands in the reply
abbrev pub step_of : Stepped → BlockReply → Step
step_of Working reply = step.Working
step_of Idle reply = step.Idle
step_of (Done completion) reply = step.Done (record { id = reply.id; outcome = reply.outcome; bytes = reply.bytes })
step_of Failed reply = step.Failed
