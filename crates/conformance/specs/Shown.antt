-- What justifies a run that was run out.
use Rattle.std.specs.Prelude.{◌≡◌, ℕ, List, length, map, take, true, false, None, IfSome}
use Rattle.bdev.specs.DriverState.{DriverState}
use Rattle.media.specs.Contents.{MediaState}
use Rattle.reincarnate.specs.declared.policy.Policy.{Policy}
use Rattle.reincarnate.specs.Watch.{new_watch}
use Rattle.records.specs.Area.{Area}
use Rattle.records.specs.Marks.{Mark}
use Rattle.schedule.specs.declared.Sent.{Sent}
use Rattle.schedule.specs.declared.Event.{Event}
use Rattle.schedule.specs.Groups.{Group, marks_of, running, generation, Each, EachGroup}
use Rattle.schedule.specs.Drivers.{state_of}
use Rattle.schedule.specs.Faults.{ExitsOfGroup, FailsAtItsStep, HasNotFailed}
use Rattle.schedule.specs.Starts.{GivingUpOfGroup}
use Rattle.schedule.specs.Replies.{are_in_order}
use Rattle.schedule.specs.Justified.{AnswersAndFlushes}
use Rattle.schedule.specs.Noted.{marks_in}
use Rattle.simulated_link.specs.StateView.{IsOpened}
use Rattle.simulated_link.specs.Moments.{Moment, Resting, Runs}
use Rattle.conformance.specs.Steady.{StartsAsDue, HungAsDue, drivers_of}
use Rattle.conformance.specs.Complaining.{ComplaintsAsDue}
use Rattle.conformance.specs.Ordered.{OrderedAsDue}

-- The record is that of the groups. At each event there are the exits, the hung drivers, the complaints and the starts that must be, the
-- device is given up where and as often as it must be, the answers and flushes are those that must be, and the calls taken so far are the
-- first that arrived, in their order. The drivers are those of the supply that were started; the one that runs hasn't failed, and each that
-- has failed did so at a step of its own. The replies stand at later and later events.
pub record EventsJustified (policy : Policy) (supply : List DriverState) (groups : List Group) (marks : List Mark) (sent : List Sent) (drivers : List DriverState) : Type 0 where
  pub record_is : marks_of groups ≡ marks
  pub exits : EachGroup (λ event group earlier. ExitsOfGroup drivers event group earlier) groups
  pub hung : EachGroup (HungAsDue policy) groups
  pub complaints : EachGroup ComplaintsAsDue groups
  pub starts : EachGroup (StartsAsDue policy) groups
  pub giving_up : EachGroup (λ event group earlier. GivingUpOfGroup policy (length supply) event group earlier) groups
  pub answers : EachGroup (λ event group earlier. AnswersAndFlushes sent event group earlier) groups
  pub ordered : EachGroup OrderedAsDue groups
  pub all : length drivers ≡ generation marks
  pub handed_in : map (λ d. d.ranges) drivers ≡ take (length drivers) (map (λ d. d.ranges) supply)
  pub sound : HasNotFailed drivers (running marks)
  pub failures : (g : ℕ) → IfSome (state_of drivers g) (FailsAtItsStep groups g)
  pub replies_order : are_in_order 0 sent ≡ true

-- so it is of a run from its opening, where neither a complaint is owed nor that the device was given up
abbrev pub RunsShowEvents : Type 0
RunsShowEvents =
    (media : MediaState) (rules : Policy) (supply : List DriverState) (events : List Event) (area : Area) (b a : Moment)
    → media.generation ≡ 0 → Each (λ d. d.failed ≡ false) supply → IsOpened media rules (new_watch (length supply)) supply events b.run
    → b.doing ≡ Resting → b.outbox.complaint ≡ None → Runs area b a → a.outbox.complaint ≡ None → a.run.owed ≡ false
    → EventsJustified rules supply a.run.scene.noted.groups (marks_in a.run.scene.noted) a.run.scene.disks.sent (drivers_of a.run.scene.disks)
