-- When requests are issued, in a whole run.
use Rattle.std.specs.Prelude.{◌≡◌, ◌⊎◌, ◌<◌, List, [], length, true, false, None}
use Rattle.message.specs.declared.endpoint.Endpoint.{Endpoint}
use Rattle.message.specs.declared.BlockRequest.{BlockRequest}
use Rattle.bdev.specs.DriverState.{DriverState}
use Rattle.media.specs.Contents.{MediaState}
use Rattle.reincarnate.specs.declared.policy.Policy.{Policy}
use Rattle.reincarnate.specs.Watch.{new_watch}
use Rattle.records.specs.Area.{Area}
use Rattle.records.specs.Marks.{Mark}
use Rattle.records.specs.Acts.{MayPost, is_post_due, empty_outbox}
use Rattle.schedule.specs.declared.Event.{Event}
use Rattle.schedule.specs.Groups.{Group, marks_of, Each, EachGroup}
use Rattle.schedule.specs.Starts.{IssuesFollow}
use Rattle.simulated_link.specs.Disks.{is_at}
use Rattle.simulated_link.specs.StateView.{IsOpened}
use Rattle.simulated_link.specs.Moments.{Moment, Resting, Runs, record_of}
use Rattle.conformance.specs.Said.{PlacedAsDue}

-- right after a start all open requests are issued to the new driver, in rising order
abbrev pub FollowedAsDue : Event → List Mark → List Group → Type 0
FollowedAsDue event group earlier = IssuesFollow [] group (marks_of earlier)

-- a driver that has no request in work, as each one that was never handed a request
pub record HasNoWork (d : DriverState) : Type 0 where
  pub idle : d.work ≡ None

-- at each event of a run from its opening requests are issued in their places
abbrev pub RunsKeepPlaces : Type 0
RunsKeepPlaces =
    (media : MediaState) (rules : Policy) (supply : List DriverState) (events : List Event) (area : Area) (b a : Moment)
    → media.generation ≡ 0 → Each (λ d. d.failed ≡ false) supply → IsOpened media rules (new_watch (length supply)) supply events b.run
    → b.doing ≡ Resting → b.outbox ≡ empty_outbox → Runs area b a → EachGroup PlacedAsDue a.run.scene.noted.groups

-- once no post is due, each start was followed by all open requests
abbrev pub RunsKeepFollowed : Type 0
RunsKeepFollowed =
    (media : MediaState) (rules : Policy) (supply : List DriverState) (events : List Event) (area : Area) (b a : Moment)
    → media.generation ≡ 0 → Each (λ d. d.failed ≡ false) supply → IsOpened media rules (new_watch (length supply)) supply events b.run
    → b.doing ≡ Resting → b.outbox ≡ empty_outbox → Runs area b a → is_post_due (record_of a.run) a.outbox ≡ false
    → EachGroup FollowedAsDue a.run.scene.noted.groups

-- so it was where the server rests, and where the link has ended
abbrev pub RunsEndFollowed : Type 0
RunsEndFollowed =
    (media : MediaState) (rules : Policy) (supply : List DriverState) (events : List Event) (area : Area) (b a : Moment)
    → media.generation ≡ 0 → Each (λ d. d.failed ≡ false) supply → IsOpened media rules (new_watch (length supply)) supply events b.run
    → b.doing ≡ Resting → b.outbox ≡ empty_outbox → Runs area b a → (a.doing ≡ Resting) ⊎ (a.run.over ≡ true)
    → EachGroup FollowedAsDue a.run.scene.noted.groups

-- where a request is to be posted to the driver that lives at its endpoint, that one's line has room
abbrev pub RunsKeepRoom : Type 0
RunsKeepRoom =
    (media : MediaState) (rules : Policy) (supply : List DriverState) (events : List Event) (area : Area) (b a : Moment)
    → media.generation ≡ 0 → Each (λ d. d.failed ≡ false) supply → Each HasNoWork supply
    → IsOpened media rules (new_watch (length supply)) supply events b.run → b.doing ≡ Resting → b.outbox ≡ empty_outbox → Runs area b a
    → (to : Endpoint) (r : BlockRequest) → MayPost area (record_of a.run) a.outbox to r → is_at to a.run.scene.disks ≡ true
    → length a.run.scene.disks.current.line < 32
