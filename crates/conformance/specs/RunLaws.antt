-- What a whole run keeps.
use Rattle.std.specs.Prelude.{◌≡◌, ℕ, List, [], ◌∷◌, length, map, take, true, false, None, IfSome}
use Rattle.bdev.specs.DriverState.{DriverState}
use Rattle.media.specs.Contents.{MediaState}
use Rattle.reincarnate.specs.declared.policy.Policy.{Policy}
use Rattle.reincarnate.specs.Watch.{driver, new_watch}
use Rattle.records.specs.Area.{Area}
use Rattle.records.specs.Marks.{Started}
use Rattle.schedule.specs.declared.Event.{Event}
use Rattle.schedule.specs.Groups.{Group, marks_of, running, generation, Each, EachGroup}
use Rattle.schedule.specs.Faults.{ExitsOfGroup, HasNotFailed, FailsAtItsStep}
use Rattle.schedule.specs.Drivers.{state_of}
use Rattle.schedule.specs.Replies.{answers_in, answers_due, are_in_order}
use Rattle.schedule.specs.Noted.{marks_in}
use Rattle.simulated_link.specs.StateView.{RunState, IsOpened}
use Rattle.simulated_link.specs.Moments.{Moment, Resting, Runs}
use Rattle.conformance.specs.Core.{Core}
use Rattle.conformance.specs.Steady.{EachSoFar, StartsAsDue, HungAsDue, FlushesAsDue, GivesUpAsDue, GivesUpSoFar, AnsweredSoFar, ExitsSoFar, drivers_of}
use Rattle.conformance.specs.Said.{IsSaid, HasBegun, OverCalm}
use Rattle.conformance.specs.Complaining.{ComplaintsAsDue}
use Rattle.conformance.specs.Owing.{AfterFaultAsDue}
use Rattle.conformance.specs.Ordered.{OrderedAsDue}

-- it is said of a run so far, if it was said at first
abbrev pub RunsKeep : (ℕ → List Group → Core → Type 0) → Type 0
RunsKeep Said = (area : Area) (b a : Moment) → Runs area b a → OverCalm b → HasBegun b → IsSaid Said b.run → IsSaid Said a.run

-- at each event of a run drivers are started exactly where the policy and the events before say
abbrev pub RunsKeepStarts : Type 0
RunsKeepStarts = (drivers : ℕ) → RunsKeep (EachSoFar drivers StartsAsDue)

-- and found to be hung
abbrev pub RunsKeepHung : Type 0
RunsKeepHung = (drivers : ℕ) → RunsKeep (EachSoFar drivers HungAsDue)

-- each Flush event has one flush, and no other event any
abbrev pub RunsKeepFlushes : Type 0
RunsKeepFlushes = (drivers : ℕ) → RunsKeep (EachSoFar drivers FlushesAsDue)

-- the device is given up in the group of a fault that gives it up, once
abbrev pub RunsKeepGivingUp : Type 0
RunsKeepGivingUp = (drivers : ℕ) → RunsKeep (GivesUpSoFar drivers)

-- those replies are answered that are delivered, were sent earlier, and count
abbrev pub RunsKeepAnswers : Type 0
RunsKeepAnswers = RunsKeep AnsweredSoFar

-- there are the exits that must be
abbrev pub RunsKeepExits : Type 0
RunsKeepExits = (drivers : ℕ) → RunsKeep (ExitsSoFar drivers)

-- What of a run so far is justified: the record is that of the groups, and at each event there are the exits, the hung drivers, the starts,
-- the answers and the flushes that must be; the device is given up as often as it must be, where that isn't owed; and the drivers are those
-- of the supply that were started, of which the one that runs hasn't failed.
pub record WholeJustified (supply : List DriverState) (p : RunState) : Type 0 where
  pub record_is : marks_of p.scene.noted.groups ≡ marks_in p.scene.noted
  pub exits : EachGroup (λ event group earlier. ExitsOfGroup (drivers_of p.scene.disks) event group earlier) p.scene.noted.groups
  pub hung : EachGroup (HungAsDue p.scene.policy) p.scene.noted.groups
  pub starts : EachGroup (StartsAsDue p.scene.policy) p.scene.noted.groups
  pub given_up : p.owed ≡ false → EachGroup (GivesUpAsDue (length supply) p.scene.policy) p.scene.noted.groups
  pub answered : EachGroup (λ event group earlier. answers_in group ≡ answers_due p.scene.disks.sent event earlier) p.scene.noted.groups
  pub replies_order : are_in_order 0 p.scene.disks.sent ≡ true
  pub flushed : EachGroup (FlushesAsDue p.scene.policy) p.scene.noted.groups
  pub all : length (drivers_of p.scene.disks) ≡ generation (marks_of p.scene.noted.groups)
  pub handed_in : map (λ d. d.ranges) (drivers_of p.scene.disks) ≡ take (length (drivers_of p.scene.disks)) (map (λ d. d.ranges) supply)
  pub sound : HasNotFailed (drivers_of p.scene.disks) (running (marks_of p.scene.noted.groups))

-- a run from its opening, once the server heard of the first start and did nothing about it, is justified at each of its moments
abbrev pub RunsAreJustified : Type 0
RunsAreJustified =
    (media : MediaState) (rules : Policy) (supply : List DriverState) (events : List Event) (area : Area) (b a : Moment)
    → media.generation ≡ 0 → Each (λ d. d.failed ≡ false) supply → IsOpened media rules (new_watch (length supply)) supply events b.run → b.doing ≡ Resting
    → Runs area b a → WholeJustified supply a.run

-- a complaint follows exactly each answer of the running driver that isn't good, once the server owes none
abbrev pub RunsKeepComplaints : Type 0
RunsKeepComplaints =
    (media : MediaState) (rules : Policy) (supply : List DriverState) (events : List Event) (area : Area) (b a : Moment)
    → media.generation ≡ 0 → IsOpened media rules (new_watch (length supply)) supply events b.run → b.doing ≡ Resting → b.outbox.complaint ≡ None
    → Runs area b a → a.outbox.complaint ≡ None → EachGroup ComplaintsAsDue a.run.scene.noted.groups

-- the device is given up only after its fault
abbrev pub RunsKeepAfterFault : Type 0
RunsKeepAfterFault =
    (media : MediaState) (rules : Policy) (supply : List DriverState) (events : List Event) (area : Area) (b a : Moment)
    → media.generation ≡ 0 → IsOpened media rules (new_watch (length supply)) supply events b.run → b.doing ≡ Resting → b.outbox.complaint ≡ None
    → Runs area b a → EachGroup AfterFaultAsDue a.run.scene.noted.groups

-- at each event the calls taken so far are the first that arrived, in their order
abbrev pub RunsKeepOrder : Type 0
RunsKeepOrder =
    (media : MediaState) (rules : Policy) (supply : List DriverState) (events : List Event) (area : Area) (b a : Moment)
    → IsOpened media rules (new_watch (length supply)) supply events b.run → b.doing ≡ Resting → Runs area b a
    → EachGroup OrderedAsDue a.run.scene.noted.groups

-- All that is justified of a run so far, with what the server owes: complaints follow once it owes none, the device is given up after its
-- fault, and calls are taken in the order in which they arrived.
pub record RunJustified (supply : List DriverState) (m : Moment) : Type 0 where
  pub events : WholeJustified supply m.run
  pub complaints : m.outbox.complaint ≡ None → EachGroup ComplaintsAsDue m.run.scene.noted.groups
  pub after_fault : EachGroup AfterFaultAsDue m.run.scene.noted.groups
  pub ordered : EachGroup OrderedAsDue m.run.scene.noted.groups

abbrev pub RunsKeepAll : Type 0
RunsKeepAll =
    (media : MediaState) (rules : Policy) (supply : List DriverState) (events : List Event) (area : Area) (b a : Moment)
    → media.generation ≡ 0 → Each (λ d. d.failed ≡ false) supply → IsOpened media rules (new_watch (length supply)) supply events b.run → b.doing ≡ Resting
    → b.outbox.complaint ≡ None → Runs area b a → RunJustified supply a

-- a driver that has failed did so at a step of its own
abbrev pub RunsKeepFailures : Type 0
RunsKeepFailures =
    (media : MediaState) (rules : Policy) (supply : List DriverState) (events : List Event) (area : Area) (b a : Moment)
    → media.generation ≡ 0 → Each (λ d. d.failed ≡ false) supply → IsOpened media rules (new_watch (length supply)) supply events b.run → b.doing ≡ Resting
    → Runs area b a → (g : ℕ) → IfSome (state_of (drivers_of a.run.scene.disks) g) (FailsAtItsStep a.run.scene.noted.groups g)
