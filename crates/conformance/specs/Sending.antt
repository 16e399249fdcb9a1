-- The replies that were sent in a run.
use Rattle.std.specs.Prelude.{◌≡◌, List, ◌∷◌, length, true}
use Rattle.bdev.specs.DriverState.{DriverState, is_fresh}
use Rattle.media.specs.Contents.{MediaState}
use Rattle.reincarnate.specs.declared.policy.Policy.{Policy}
use Rattle.reincarnate.specs.Watch.{new_watch}
use Rattle.records.specs.Area.{Area}
use Rattle.records.specs.Marks.{Mark}
use Rattle.schedule.specs.declared.Event.{Event}
use Rattle.schedule.specs.Groups.{Group, marks_of, Each, EachGroup}
use Rattle.schedule.specs.Replies.{IsSentAtItsStep}
use Rattle.simulated_link.specs.StateView.{IsOpened}
use Rattle.simulated_link.specs.Moments.{Moment, Resting, Runs}
use Rattle.conformance.specs.Said.{PlacedAsDue}

-- where the drivers that were handed in are new, and each request was issued where it may be, each reply stands at a step of its driver
abbrev pub RunsKeepSteps : Type 0
RunsKeepSteps =
    (media : MediaState) (rules : Policy) (supply : List DriverState) (events : List Event) (area : Area) (b a : Moment)
    → media.generation ≡ 0 → Each (λ d. is_fresh d ≡ true) supply
    → IsOpened media rules (new_watch (length supply)) supply events b.run → b.doing ≡ Resting → Runs area b a
    → EachGroup PlacedAsDue a.run.scene.noted.groups
    → Each (IsSentAtItsStep a.run.scene.noted.groups a.run.scene.disks.sent) a.run.scene.disks.sent
