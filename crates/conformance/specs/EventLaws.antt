-- What each event, and what a server does within it, keep.
use Rattle.std.specs.Prelude.{◌≡◌, ℕ, List, [], ◌∷◌, ◌++◌, Bool, false, Option}
use Rattle.message.specs.declared.Incoming.{Incoming}
use Rattle.bdev.specs.DriverState.{DriverState}
use Rattle.reincarnate.specs.Watch.{driver}
use Rattle.records.specs.Marks.{Mark, Started}
use Rattle.schedule.specs.declared.Event.{Event}
use Rattle.simulated_link.specs.Scene.{Scene, Occurs}
use Rattle.conformance.specs.Steady.{IsKept, EachSoFar, StartsAsDue, HungAsDue, FlushesAsDue, GivesUpSoFar, AnsweredSoFar, ExitsSoFar, DriversSoFar, SlotsSoFar}
use Rattle.conformance.specs.Seen.{EventDone, begun_scene}

-- each event of a run is one of these, where the first start alone was noted before the first event
abbrev pub EventsAreDone : Type 0
EventsAreDone =
    (place : ℕ) (owed told : Bool) (event : Event) (b : Scene) (result : Option Incoming) (a : Scene) → b.noted.first ≡ Started (driver 1) ∷ []
    → Occurs place event (begun_scene event b) result a → EventDone place owed told event b result a

-- at each event drivers are started exactly where the policy and the events before say
abbrev pub StartsAreKept : Type 0
StartsAreKept = (drivers : ℕ) → IsKept (EachSoFar drivers StartsAsDue)

-- and found to be hung
abbrev pub HungAreKept : Type 0
HungAreKept = (drivers : ℕ) → IsKept (EachSoFar drivers HungAsDue)

-- a flush is a Flush event's
abbrev pub FlushesAreKept : Type 0
FlushesAreKept = (drivers : ℕ) → IsKept (EachSoFar drivers FlushesAsDue)

-- the device is given up in the group of a fault that gives it up, once
abbrev pub GivingUpIsKept : Type 0
GivingUpIsKept = (drivers : ℕ) → IsKept (GivesUpSoFar drivers)

-- at each event those replies are answered that are delivered there, were sent earlier, and count
abbrev pub AnswersAreKept : Type 0
AnswersAreKept = IsKept AnsweredSoFar

-- at each event there are the exits that must be
abbrev pub ExitsAreKept : Type 0
ExitsAreKept = (drivers : ℕ) → IsKept (ExitsSoFar drivers)

-- the drivers are those that were handed in, and the one that runs hasn't failed
abbrev pub DriversAreKept : Type 0
DriversAreKept = (drivers : ℕ) (supply : List DriverState) → IsKept (DriversSoFar drivers supply)

-- a driver that lives hasn't ended, and one that has failed did so at a step of its own
abbrev pub SlotsAreKept : Type 0
SlotsAreKept = (drivers : ℕ) → IsKept (SlotsSoFar drivers)
