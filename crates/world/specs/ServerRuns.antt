-- The link of a run before its first event, and what a server that is opened over it runs.
use Rattle.std.specs.Prelude.{◌≡◌, ℕ, List, length, false}
use Rattle.layout.specs.declared.Geometry.{Geometry}
use Rattle.records.specs.Mount.{OpenKeeps}
use Rattle.reissue.specs.declared.link.Link.{Ghosts as LinkWords}
use Rattle.schedule.specs.declared.Event.{Event}
use Rattle.simulated_link.specs.StateView.{RunState}
use Rattle.world.specs.Starts.{IsBeforeFirst, RunsAll}
use Rattle.cached_blocks.specs.declared.Stored.{Stored}
use Rattle.volume_mount.specs.Server.{Server}
use Rattle.volume_mount.specs.OverLink.{line_of, serving_over}

-- A server that was opened over this link, with so many frames, has run the schedule out; so many calls are left.
pub record RunsFrom {L : Type 0} (words : LinkWords L) (run : L → RunState) (link : L) (minor : ℕ) (g : Geometry) (frames : ℕ) (s : Server (Stored L)) (unanswered : ℕ) : Type 0 where
  pub before : Server (Stored L)
  pub opened : OpenKeeps g minor frames (words.history link) (serving_over words before)
  pub plays : RunsAll (serving_over words before) (serving_over words s) (words.truth link) (run link) (run (line_of s)) unanswered

-- Before the first event of these: the first start was noted alone, and the media have so many sectors.
pub record IsFresh (events : List Event) (sectors : ℕ) (p : RunState) : Type 0 where
  pub first : IsBeforeFirst p
  pub events_are : p.events ≡ events
  pub untold : p.told ≡ false
  pub sectors_are : length p.scene.disks.media.sectors ≡ sectors
