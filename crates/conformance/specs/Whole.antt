-- What justifies a run that was run out.
use Rattle.std.specs.Prelude.{◌≡◌, ◌⊎◌, ℕ, List, [], ◌++◌, length, true, false, None}
use Rattle.bdev.specs.DriverState.{DriverState, is_fresh}
use Rattle.bdev.specs.Promises.{IsDriver}
use Rattle.media.specs.Contents.{MediaState}
use Rattle.reincarnate.specs.declared.policy.Policy.{Policy}
use Rattle.reincarnate.specs.Watch.{new_watch}
use Rattle.records.specs.Area.{Area}
use Rattle.records.specs.Open.{IsWellFormed}
use Rattle.records.specs.Acts.{empty_outbox}
use Rattle.schedule.specs.declared.Event.{Event}
use Rattle.schedule.specs.Groups.{marks_of, Each}
use Rattle.schedule.specs.Calls.{Arrival, arrived, taken}
use Rattle.schedule.specs.Justified.{Justified}
use Rattle.schedule.specs.Noted.{marks_in}
use Rattle.simulated_link.specs.StateView.{RunState, IsOpened}
use Rattle.simulated_link.specs.Moments.{Moment, Resting, Runs}
use Rattle.conformance.specs.Steady.{drivers_of}

-- a driver that was never handed a request, and hasn't failed
pub record IsUnused (d : DriverState) : Type 0 where
  pub driver : IsDriver d
  pub fresh : is_fresh d ≡ true

-- How a run ends: no complaint is owed, nor that the device was given up; the server rests and no call waits, or the link has ended. Its
-- record is well formed.
pub record IsAtEnd (m : Moment) : Type 0 where
  pub calm : m.outbox.complaint ≡ None
  pub paid : m.run.owed ≡ false
  pub ends : ((m.doing ≡ Resting) × (m.run.queue ≡ [])) ⊎ (m.run.over ≡ true)
  pub well_formed : IsWellFormed (marks_in m.run.scene.noted)

-- a run is justified whose record is that of its groups; so many calls are left
pub record IsWhole (rules : Policy) (supply : List DriverState) (p : RunState) (unanswered : ℕ) : Type 0 where
  pub record_is : marks_of p.scene.noted.groups ≡ marks_in p.scene.noted
  pub justified : Justified rules supply p.scene.noted.groups p.scene.disks.sent (drivers_of p.scene.disks) unanswered

-- A run from its opening, over drivers that were never used, by a server that owes its link nothing then: at its end it is justified. The
-- calls left are those that arrived after those that were taken.
abbrev pub RunsAreWhole : Type 0
RunsAreWhole =
    (media : MediaState) (rules : Policy) (supply : List DriverState) (events : List Event) (area : Area) (b a : Moment)
    → media.generation ≡ 0 → Each IsUnused supply → IsOpened media rules (new_watch (length supply)) supply events b.run
    → b.doing ≡ Resting → b.outbox ≡ empty_outbox → Runs area b a → IsAtEnd a
    → (left : List Arrival) → arrived a.run.scene.noted.groups ≡ left ++ taken (marks_in a.run.scene.noted) → IsWhole rules supply a.run (length left)
