-- The calls that wait, at each event of a run.
use Rattle.std.specs.Prelude.{◌≡◌, ◌⊎◌, ◌<◌, List, [], ◌∷◌, length, true}
use Rattle.message.specs.declared.endpoint.Endpoint.{Endpoint}
use Rattle.message.specs.declared.BlockRequest.{BlockRequest}
use Rattle.bdev.specs.DriverState.{DriverState}
use Rattle.media.specs.Contents.{MediaState}
use Rattle.reincarnate.specs.declared.policy.Policy.{Policy}
use Rattle.reincarnate.specs.Watch.{new_watch}
use Rattle.records.specs.Area.{Area}
use Rattle.records.specs.Marks.{Mark}
use Rattle.records.specs.Acts.{MayPost, empty_outbox}
use Rattle.schedule.specs.declared.Event.{Event}
use Rattle.schedule.specs.Groups.{Group, EachGroup}
use Rattle.schedule.specs.Calls.{CallsSoFar}
use Rattle.simulated_link.specs.Disks.{is_at}
use Rattle.simulated_link.specs.StateView.{IsOpened}
use Rattle.simulated_link.specs.Moments.{Moment, Resting, Runs, record_of}

-- the calls taken so far are the first that arrived, in their order, and the others wait only where they may
abbrev pub CallsAsDue : Event → List Mark → List Group → Type 0
CallsAsDue event group earlier = CallsSoFar ((event, group) ∷ earlier)

-- the line of a driver that lives has room for each post that the rules allow
abbrev pub HasRoom : Area → Moment → Type 0
HasRoom area m = (to : Endpoint) (r : BlockRequest) → MayPost area (record_of m.run) m.outbox to r → is_at to m.run.scene.disks ≡ true
    → length m.run.scene.disks.current.line < 32

-- so it is at each event of a run from its opening in which there always is such room, once the server rests with no call waiting, or the
-- link has ended
abbrev pub RunsKeepWaits : Type 0
RunsKeepWaits =
    (media : MediaState) (rules : Policy) (supply : List DriverState) (events : List Event) (area : Area) (b a : Moment)
    → media.generation ≡ 0 → IsOpened media rules (new_watch (length supply)) supply events b.run → b.doing ≡ Resting
    → b.outbox ≡ empty_outbox → Runs area b a → ((m : Moment) → Runs area b m → HasRoom area m)
    → ((a.doing ≡ Resting) × (a.run.queue ≡ [])) ⊎ (a.run.over ≡ true)
    → EachGroup CallsAsDue a.run.scene.noted.groups
