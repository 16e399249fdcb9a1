-- What a run came to, in the words of schedules.
use Rattle.std.specs.Prelude.{ℕ, List, [], ◌∷◌, ◌++◌, map}
use Rattle.std.specs.List.{concat}
use Rattle.bdev.specs.DriverState.{DriverState}
use Rattle.records.specs.View.{Frames}
use Rattle.cache.specs.Slots.{held}
use Rattle.cache.specs.Frames.{frames_of}
use Rattle.cache.specs.Calls.{frame_count}
use Rattle.schedule.specs.Headline as schedule
use Rattle.schedule.specs.Noted.{marks_in}
use Rattle.schedule.specs.LogView.{said}
use Rattle.simulated_link.specs.Disks.{Disks}
use Rattle.simulated_link.specs.DisksView.{disks_of}
use Rattle.cached_blocks.specs.declared.Stored.{Stored}
use Rattle.vfs.specs.declared.server.Server.{Server}
use Rattle.vfs.specs.OverLink.{line_of}
use Rattle.transcript.specs.declared.run_transcript.Transcript.{Transcript}

-- the drivers that were started, in the order of their starts
abbrev pub states_of : Disks → List DriverState
states_of d = map (λ s. s.state) (d.older ++ d.current ∷ [])

-- the frames of a server by their blocks
abbrev pub frames_in : {L : Type 0} → Server (Stored L) → Frames
frames_in s = frames_of s.blocks.cache.shape.block_size (held s.blocks.cache.slots.items.items)

-- a run's transcript
abbrev pub transcript_of : {D : Type 0} → (D → DriverState) → Transcript D → schedule.Transcript
transcript_of state t = let link = line_of t.server in record {
  marks = marks_in (said link.log);
  sent = (disks_of state link.stage.drivers).sent;
  drivers = states_of (disks_of state link.stage.drivers);
  frames = frames_in t.server;
  unanswered = t.unanswered;
  image = concat (disks_of state link.stage.drivers).media.sectors;
}

-- how many blocks of the volume may have a frame at a time
abbrev pub frame_count_of : {D : Type 0} → Transcript D → ℕ
frame_count_of t = frame_count t.server.blocks.cache
