-- How rows of moments are put together.
use Rattle.std.specs.Prelude.{◌≡◌, ◌+◌, ◌<◌, List, ◌++◌, length, true, false, Option, Some, None, Ok, refl, slice_get}
use Rattle.message.specs.declared.endpoint.Endpoint.{Endpoint}
use Rattle.message.specs.declared.BlockRequest.{BlockRequest}
use Rattle.message.specs.declared.Incoming.{Incoming}
use Rattle.records.specs.Area.{Area, FitsArea}
use Rattle.records.specs.Marks.{Mark}
use Rattle.records.specs.Acts.{Outbox, IsAtRest, is_post_due, target, first_of}
use Rattle.records.specs.Told.{Posted}
use Rattle.schedule.specs.ArrivingCalls.{calls_of}
use Rattle.schedule.specs.declared.Event.{Event}
use Rattle.simulated_link.specs.Disks.{Disks, is_at, lined_up, IsLinedUp}
use Rattle.simulated_link.specs.Kept.{IsLatest}
use Rattle.simulated_link.specs.Moments.{Moment, Resting, is_busy, IsBetween, record_of, at_link, Step, Tells, Runs, Then}
use Rattle.simulated_link.specs.RunState.{begun}
use Rattle.simulated_link.specs.Scene.{Scene, Occurs}
use Rattle.simulated_link.specs.StateView.{RunState, RunsEvent, posted, Posts}

infixl 3 ◌▸◌
-- a run, and one step more
pub ◌▸◌ : {area : Area} {b m a : Moment} → Runs area b m → Step area m a → Runs area b a
◌▸◌ {m = m} {a = a} runs step = Then m a runs step

-- one event more was run, which left this scene
abbrev pub after_event : Event → Scene → RunState → RunState
after_event event s b = record b { scene = s; queue = b.queue ++ calls_of event; next = b.next + 1 }

-- the event is next, and does that
pub runs_event : {b : RunState} {result : Option Incoming} (event : Event) (s : Scene) → b.over ≡ false → b.owed ≡ false
    → slice_get b.events b.next ≡ Some event → IsLatest b.scene → Occurs b.next event (begun event b.scene) result s
    → RunsEvent b result (after_event event s b)
runs_event event s live paid is latest plays = record {
  event = event;
  live = live;
  paid = paid;
  is = is;
  latest = latest;
  plays = plays;
  queue = refl;
  events = refl;
  next = refl;
  owed = refl;
  told = refl;
  over = refl;
  starved = refl;
}

-- it changes the media and the drivers alone
abbrev pub disks_after : Event → Disks → RunState → RunState
disks_after event d b = after_event event (record (begun event b.scene) { disks = d }) b

-- it changes nothing there
abbrev pub nothing_after : Event → RunState → RunState
nothing_after event b = after_event event (begun event b.scene) b

-- no complaint and no post is due
pub at_rest : {marks : List Mark} {o : Outbox} → o.complaint ≡ None → is_post_due marks o ≡ false → IsAtRest marks o
at_rest complaint post = record { complaint = complaint; post = post }

-- the server rests
pub between : {m : Moment} → m.doing ≡ Resting → m.run.over ≡ false → m.outbox.complaint ≡ None
    → is_post_due (record_of m.run) m.outbox ≡ false → IsBetween m
between rests live complaint post = record { rests = rests; live = live; at_rest = record { complaint = complaint; post = post } }

-- the next request is posted, and accepted
pub posts : {area : Area} {m : Moment} (to : Endpoint) (r : BlockRequest) → is_busy m.doing ≡ true → m.outbox.complaint ≡ None
    → target (record_of m.run) ≡ Some to → m.outbox.stopped ≡ false → first_of m.outbox.unposted ≡ Some r → FitsArea area r
    → m.run.over ≡ false → is_at to m.run.scene.disks ≡ true → length m.run.scene.disks.current.line < 32
    → Step area m (at_link (Posted to r true) (posted to r true (lined_up r m.run.scene.disks) m.run) m)
posts to r busy complained endpoint not_stopped first fits live there room =
    Tells (Posted to r true) _ busy refl
    (record { complained = complained; endpoint = endpoint; not_stopped = not_stopped; first = first; fits = fits })
    (Posts to r (Ok tt) _ live (IsLinedUp there room))
