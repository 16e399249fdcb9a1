-- What a whole run keeps of what its drivers took and answered.
use Rattle.std.specs.Prelude.{◌≡◌, ℕ, List, ◌∷◌, length, true, All, IfSome}
use Rattle.bdev.specs.DriverState.{DriverState}
use Rattle.media.specs.Contents.{MediaState}
use Rattle.reincarnate.specs.declared.policy.Policy.{Policy}
use Rattle.reincarnate.specs.Watch.{new_watch}
use Rattle.records.specs.Area.{Area}
use Rattle.records.specs.Marks.{Mark}
use Rattle.records.specs.Open.{IsWellFormed}
use Rattle.records.specs.Opening.{Opening}
use Rattle.schedule.specs.declared.Event.{Event}
use Rattle.schedule.specs.Groups.{Group, marks_of, Each, EachGroup}
use Rattle.schedule.specs.Drivers.{state_of, TookItsOwn}
use Rattle.schedule.specs.Replies.{RepliesOf}
use Rattle.synchronous_driver.specs.Inline.{IsReady}
use Rattle.simulated_link.specs.StateView.{IsOpened}
use Rattle.simulated_link.specs.Moments.{Moment, Resting, Runs}
use Rattle.conformance.specs.Steady.{IsKept, drivers_of}
use Rattle.conformance.specs.Said.{core_of, PlacedAsDue}
use Rattle.conformance.specs.Took.{TookNothing, TookSoFar}

-- drivers that are ready for a volume were handed in new
abbrev pub ReadyAreNew : Type 0
ReadyAreNew = (v : Opening) (supply : List DriverState) → All (IsReady v) supply → Each TookNothing supply

-- each event, and what is done within it, keeps that what stands with a driver was issued to it
abbrev pub TookIsKept : Type 0
TookIsKept = (drivers : ℕ) → IsKept (TookSoFar drivers)

-- so it is at each moment of a run
abbrev pub RunsGiveTook : Type 0
RunsGiveTook =
    (media : MediaState) (rules : Policy) (supply : List DriverState) (events : List Event) (area : Area) (b a : Moment)
    → media.generation ≡ 0 → Each TookNothing supply → IsOpened media rules (new_watch (length supply)) supply events b.run → b.doing ≡ Resting
    → Runs area b a → TookSoFar (length supply) a.run.next a.run.scene.noted.groups (core_of a.run)

-- each driver took nothing, or last a request that was issued to it; the one in work is that one
abbrev pub RunsKeepTook : Type 0
RunsKeepTook =
    (media : MediaState) (rules : Policy) (supply : List DriverState) (events : List Event) (area : Area) (b a : Moment)
    → media.generation ≡ 0 → Each TookNothing supply → IsOpened media rules (new_watch (length supply)) supply events b.run → b.doing ≡ Resting
    → Runs area b a → (g : ℕ) → IfSome (state_of (drivers_of a.run.scene.disks) g) (TookItsOwn (marks_of a.run.scene.noted.groups) g)

-- the replies of each driver are those that it gave as it stands, where the record is well formed and each request was issued in its place
abbrev pub RunsKeepReplies : Type 0
RunsKeepReplies =
    (media : MediaState) (rules : Policy) (supply : List DriverState) (events : List Event) (area : Area) (b a : Moment)
    → media.generation ≡ 0 → Each TookNothing supply → IsOpened media rules (new_watch (length supply)) supply events b.run → b.doing ≡ Resting
    → Runs area b a → EachGroup PlacedAsDue a.run.scene.noted.groups → IsWellFormed (marks_of a.run.scene.noted.groups)
    → (g : ℕ) → IfSome (state_of (drivers_of a.run.scene.disks) g)
    (RepliesOf (marks_of a.run.scene.noted.groups) a.run.scene.disks.sent g)
