-- That an exact run begins with an exact run of each beginning of its schedule.
use Rattle.std.specs.Prelude.{◌≡◌, ◌≤◌, ℕ, List, ◌++◌, take, None}
use Rattle.message.specs.declared.Incoming.TheVariants as incoming
use Rattle.layout.specs.declared.Geometry.{Geometry}
use Rattle.bdev.specs.DriverState.{DriverState}
use Rattle.reincarnate.specs.declared.policy.Setup.{Setup}
use Rattle.records.specs.Area.{Area, area_of}
use Rattle.records.specs.Marks.{IsBeginning}
use Rattle.records.specs.Told.{Received}
use Rattle.schedule.specs.declared.Sent.{Sent}
use Rattle.schedule.specs.declared.Event.{Event}
use Rattle.schedule.specs.Groups.{Group, Each}
use Rattle.schedule.specs.Headline.{Transcript}
use Rattle.simulated_link.specs.StateView.{RunState, Advances, ended}
use Rattle.simulated_link.specs.Moments.{Moment, Runs, at_link}
use Rattle.world.specs.Starts.{at_first}
use Rattle.world.specs.Exact.{IsExact}

-- a moment, where the schedule has its first n events alone
abbrev pub with_first : ℕ → Moment → Moment
with_first n m = record m { run = record (m.run) { events = take n m.run.events } }

-- A run that comes to this moment ends there as it stands, or the link ends then: the server, which needs a message, takes End.
pub data EndsAt (m : Moment) : Moment → Type 0 where
  AsItStands : EndsAt m m
  OnceEnded : EndsAt m (at_link (Received incoming.End) (ended m.run) m)

-- a run by the rules comes to this moment; or to one between two of the events that a take runs until a message comes
pub data ComesTo (area : Area) (b : Moment) : Moment → Type 0 where
  Comes : (m : Moment) (p : RunState) → Runs area b m → Advances m.run None p → ComesTo area b (record m { run = p })

-- An exact run begins with one of its schedule's first n events. Both come to the same moment. There the one ends, for want of events, and
-- the whole run, with the events that are left, goes on to its last moment. At each of the first n events both have the same marks. So the
-- record of the one is the beginning of the other's, and its replies were sent first: each later one was sent at event n or later.
pub record BeginsWith (g : Geometry) (image : List ℕ) (setup : Setup) (supply : List DriverState) (events : List Event) (t : Transcript)
    (whole : IsExact g image setup supply events t) (n : ℕ) : Type 0 where
  pub start : Transcript
  pub exact : IsExact g image setup supply (take n events) start
  pub moment : Moment
  pub comes : ComesTo (area_of g setup.minor) (at_first whole.first) moment
  pub ends : EndsAt (with_first n moment) exact.last
  pub goes_on : Runs (area_of g setup.minor) moment whole.last
  pub later : List Group
  pub groups : whole.last.run.scene.noted.groups ≡ later ++ exact.last.run.scene.noted.groups
  pub marks : IsBeginning start.marks t.marks
  pub later_sent : List Sent
  pub sent : t.sent ≡ start.sent ++ later_sent
  pub places : Each (λ reply. n ≤ reply.place) later_sent

-- so it is with each beginning of the schedule
abbrev pub RunsHaveBeginnings : Type 0
RunsHaveBeginnings =
    (g : Geometry) (image : List ℕ) (setup : Setup) (supply : List DriverState) (events : List Event) (t : Transcript)
    (whole : IsExact g image setup supply events t) (n : ℕ) → BeginsWith g image setup supply events t whole n
