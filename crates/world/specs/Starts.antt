-- How a run of a server over a schedule starts, and what it comes to.
use Rattle.std.specs.Prelude.{◌≡◌, ◌≢◌, ℕ, List, [], ◌∷◌, ◌++◌, length, map, reverse, true, false}
use Rattle.tree.specs.Tree.{Tree}
use Rattle.reincarnate.specs.Watch.{driver}
use Rattle.records.specs.Marks.{Started}
use Rattle.records.specs.Opening.{Opening}
use Rattle.records.specs.Acts.{empty_outbox}
use Rattle.records.specs.ServerCall.{Serving}
use Rattle.reissue.specs.Calls.{Truth}
use Rattle.schedule.specs.Groups.{schedule_of}
use Rattle.schedule.specs.Calls.{Arrival, arrived, taken}
use Rattle.schedule.specs.Noted.{marks_in}
use Rattle.simulated_link.specs.StateView.{RunState, IsSpent, first_noted}
use Rattle.simulated_link.specs.Waiting.{arrival_of}
use Rattle.simulated_link.specs.Moments.{Doing, Resting, Moment}
use Rattle.file_server.specs.Over.{Hears}
use Rattle.world.specs.Runs.{moment, out_in}
use Rattle.world.specs.Ends.{EndsIn, RunStands}

-- no event was run and no call waits; the start of driver 1 was noted alone, and the link hasn't ended
pub record IsBeforeFirst (p : RunState) : Type 0 where
  pub noted : p.scene.noted ≡ first_noted
  pub next : p.next ≡ 0
  pub queue : p.queue ≡ []
  pub live : p.over ≡ false

-- the server does nothing at its link, and owes it nothing
abbrev pub at_first : RunState → Moment
at_first p = record { run = p; outbox = empty_outbox; doing = Resting }

-- A run from its start: the events that were noted are the schedule, and nothing is owed. The calls that arrived in them are those that were
-- answered, in their order, and so many that came later: the one that is being answered, if the run ends in it, and those that wait. A call is
-- left only where the last one was cut. The media have as many sectors as before, and the server has as many frames. Where it served a volume
-- that held a tree, with nothing in its record and nothing owed, and its link gave its guarantee of the record that has the first start alone,
-- the run stands: the server hears of that start, and does nothing about it.
pub record RunsAll (s t : Serving) (was : Truth) (b a : RunState) (unanswered : ℕ) : Type 0 where
  pub schedule : schedule_of a.scene.noted.groups ≡ b.events
  pub spent : IsSpent a
  pub last : Doing
  pub ends : EndsIn last t a
  pub left : List Arrival
  pub left_is : left ≡ reverse (map arrival_of a.queue) ++ out_in last
  pub order : arrived a.scene.noted.groups ≡ left ++ taken (marks_in a.scene.noted)
  pub number : unanswered ≡ length left
  pub cut : left ≢ [] → t.ended ≡ true
  pub sectors : length a.scene.disks.media.sectors ≡ length b.scene.disks.media.sectors
  pub frame_count : t.frame_count ≡ s.frame_count
  pub holds : (v : Opening) (tree : Tree) → s.outbox ≡ empty_outbox → Hears s was v tree [] (Started (driver 1) ∷ [])
      → RunStands s.geometry t.frames s.minor v tree (at_first b) (moment t a last) unanswered
