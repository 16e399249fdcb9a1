-- When the server acts, at each event of a run.
use Rattle.std.specs.Prelude.{◌≡◌, List, [], ◌∷◌, length, Bool, true, false, ◌||◌}
use Rattle.bdev.specs.DriverState.{DriverState}
use Rattle.media.specs.Contents.{MediaState}
use Rattle.reincarnate.specs.declared.policy.Policy.{Policy}
use Rattle.reincarnate.specs.Watch.{new_watch}
use Rattle.records.specs.Area.{Area}
use Rattle.records.specs.Marks.{Mark}
use Rattle.schedule.specs.declared.Sent.{Sent}
use Rattle.schedule.specs.declared.Event.{Event}
use Rattle.schedule.specs.Groups.{Group, EachGroup}
use Rattle.schedule.specs.Handed.{is_handed, is_told, acts_when_handed}
use Rattle.schedule.specs.declared.arrived.Arrived.{Arrived}
use Rattle.simulated_link.specs.StateView.{IsOpened}
use Rattle.simulated_link.specs.Moments.{Doing, Resting, Moment, Runs}

-- a call is finished and a request is issued only where the event, or an earlier mark of its group, handed the server something
abbrev pub ActsAsDue : List Sent → Event → List Mark → List Group → Type 0
ActsAsDue sent event group earlier = acts_when_handed (is_handed sent event earlier) group ≡ true

-- so it is at each event of a run from its opening
abbrev pub RunsKeepActs : Type 0
RunsKeepActs =
    (media : MediaState) (rules : Policy) (supply : List DriverState) (events : List Event) (area : Area) (b a : Moment)
    → IsOpened media rules (new_watch (length supply)) supply events b.run → b.doing ≡ Resting → Runs area b a
    → EachGroup (ActsAsDue a.run.scene.disks.sent) a.run.scene.noted.groups

-- whether the last event, or a mark of it, handed the server something
abbrev pub was_handed : List Sent → List Group → Bool
was_handed sent [] = false
was_handed sent ((event, group) ∷ earlier) = is_handed sent event earlier || is_told group

-- The link has ended, so that nothing is done any more; or the server was handed something; or it has no work: it does nothing, and no call
-- waits.
pub data HandedAt (over handed : Bool) (doing : Doing) (queue : List Arrived) : Type 0 where
  HasEnded : over ≡ true → HandedAt over handed doing queue
  WasHanded : handed ≡ true → HandedAt over handed doing queue
  HasNoWork : doing ≡ Resting → queue ≡ [] → HandedAt over handed doing queue
