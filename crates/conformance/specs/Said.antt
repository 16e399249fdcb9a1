-- What is said of a run between two of its steps.
use Rattle.std.specs.Prelude.{◌≡◌, ℕ, List, [], ◌∷◌, true, false, None}
use Rattle.reincarnate.specs.Watch.{driver}
use Rattle.records.specs.Marks.{Mark, Started}
use Rattle.schedule.specs.declared.Event.{Event}
use Rattle.schedule.specs.Groups.{Group, marks_of}
use Rattle.schedule.specs.Starts.{are_issued_in_place}
use Rattle.simulated_link.specs.StateView.{RunState}
use Rattle.simulated_link.specs.Moments.{Moment, Resting}
use Rattle.conformance.specs.Core.{Core}
use Rattle.conformance.specs.Seen.{core_at}

abbrev pub core_of : RunState → Core
core_of p = core_at p.scene p.owed p.told

-- of the number of the next event, the groups and what stands; before the first event the first start alone was noted
pub record IsSaid (Said : ℕ → List Group → Core → Type 0) (p : RunState) : Type 0 where
  pub first : p.scene.noted.first ≡ Started (driver 1) ∷ []
  pub said : Said p.next p.scene.noted.groups (core_of p)

-- each request of an event is issued to a live driver, before the device is given up, and again only among the first ones after a start
abbrev pub PlacedAsDue : Event → List Mark → List Group → Type 0
PlacedAsDue event group earlier = are_issued_in_place ((event, group) ∷ earlier) group (marks_of earlier) ≡ true

-- an event began
pub record IsBegun (groups : List Group) : Type 0 where
  pub event : Event
  pub group : List Mark
  pub earlier : List Group
  pub is : groups ≡ (event, group) ∷ earlier

-- an event began; or none, and the server does nothing, no call waits, and nothing is owed
pub data HasBegun (m : Moment) : Type 0 where
  Began : IsBegun m.run.scene.noted.groups → HasBegun m
  StandsBefore : m.doing ≡ Resting → m.run.queue ≡ [] → m.run.owed ≡ false → HasBegun m

-- once the link has ended the server owes no complaint
pub record OverCalm (m : Moment) : Type 0 where
  pub none : m.run.over ≡ true → m.outbox.complaint ≡ None
