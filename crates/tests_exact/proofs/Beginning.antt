-- How the rows begin: the server flushes, and posts a write to driver 1. In two of them that driver takes it, and writes the first sector.
use Rattle.std.specs.Prelude.{ℕ, List, [], ◌∷◌, Some, None, true, false, refl}
use Rattle.std.proofs.Common.{lit≤, ap, sym}
use Rattle.message.specs.declared.Incoming.TheVariants as incoming
use Rattle.media.specs.Contents.{MediaState}
use Rattle.bdev.specs.declared.Step.TheVariants.{Working}
use Rattle.reincarnate.specs.declared.policy.Policy.{Policy}
use Rattle.reincarnate.specs.Watch.{Running, driver, new_watch}
use Rattle.records.specs.Told.{Posted}
use Rattle.schedule.specs.declared.Event.{Event}
use Rattle.schedule.specs.declared.Event.TheVariants as event
use Rattle.simulated_link.specs.Disks.{Disks, lined_up, CurrentSteps}
use Rattle.simulated_link.specs.Scene.{Scene}
use Rattle.simulated_link.specs.StateView.{posted, first_noted, IsOpened}
use Rattle.simulated_link.specs.Moments.{Moment, Resting, hearing, at_link, Step, Begins, Settles, Brings, BringsNone, Runs, Starts}
use Rattle.world.specs.Starts.{at_first}
use Rattle.world.specs.Exact.{media_with}
use Rattle.tests_exact.proofs.Small.{area, old_0, old_1, new_0, image, image_sectors, disk, idle, supply, write_both, write_fits}
use Rattle.tests_exact.proofs.Drivers.{slot, at_second, begins_write}
use Rattle.tests_exact.proofs.Making.{◌▸◌, nothing_after, disks_after, runs_event, at_rest, between, posts}

-- 0: driver 1 runs, as generation 1, and none of these events was run
abbrev pub start : Policy → List Event → Moment
start policy events = at_first (record {
  scene = record {
    disks = record { media = disk old_0 old_1 1; current = slot idle; older = []; sent = [] };
    supply = idle ∷ [];
    policy = policy;
    watch = record { spares = 1; generation = 1; fault = None; phase = Running (0, 0) 0 };
    tick = 0;
    pulse = (0, 0);
    noted = first_noted;
  };
  events = events;
  next = 0;
  queue = [];
  owed = false;
  told = false;
  over = false;
  starved = false;
})

-- 1: the flush came, and the server hears it
abbrev pub flush_heard : Policy → List Event → Moment
flush_heard policy later = let m = start policy (event.Flush ∷ later) in hearing incoming.Flush (nothing_after event.Flush m.run) m

-- 2: a write became pending
abbrev pub write_begun : Policy → List Event → Moment
write_begun policy later = record (flush_heard policy later) {
  outbox = record { never_issued = write_both ∷ []; unposted = write_both ∷ []; stopped = false; complaint = None };
}

-- 3: it was posted to driver 1
abbrev pub write_posted : Policy → List Event → Moment
write_posted policy later =
    let m = write_begun policy later in
    at_link (Posted (driver 1) write_both true) (posted (driver 1) write_both true (lined_up write_both m.run.scene.disks) m.run) m

-- 4: the server rests
abbrev pub flush_done : Policy → List Event → Moment
flush_done policy later = record (write_posted policy later) { doing = Resting }

-- 5: driver 1 took the write, wrote the first sector, and names the second
abbrev pub half_written : Policy → List Event → Moment
half_written policy later =
    let m = flush_done policy (event.Step 1 ∷ later) in
    let d : Disks = record { media = disk new_0 old_1 1; current = slot at_second; older = []; sent = [] } in
    record m { run = disks_after (event.Step 1) d m.run }

-- the first moment, over these sectors
abbrev scene_on : Policy → List (List ℕ) → Scene
scene_on policy sectors =
    let media : MediaState = record { sectors = sectors; generation = 1 } in
    record ((start policy []).run.scene) { disks = record { media = media; current = slot idle; older = []; sent = [] } }

pub opened : (policy : Policy) (events : List Event)
    → IsOpened (media_with image) policy (new_watch 2) supply events (start policy events).run
opened policy events = record {
  scene = record { first = idle; rest = idle ∷ []; spare = refl; is = ap (scene_on policy) (sym image_sectors) };
  events_are = refl;
  next = refl;
  queue = refl;
  owed = refl;
  told = refl;
  over = refl;
  starved = refl;
}

step_1 : (policy : Policy) (later : List Event) → Step area (start policy (event.Flush ∷ later)) (flush_heard policy later)
step_1 policy later = Brings incoming.Flush _ (between refl refl refl refl) refl (runs_event event.Flush _ refl refl refl refl (refl, refl))

step_2 : (policy : Policy) (later : List Event) → Step area (flush_heard policy later) (write_begun policy later)
step_2 policy later = Begins write_both refl (record { next = refl; room = lit≤ tt })

step_3 : (policy : Policy) (later : List Event) → Step area (write_begun policy later) (write_posted policy later)
step_3 policy later =
    posts (driver 1) write_both refl refl refl refl refl write_fits refl refl (lit≤ tt)

step_4 : (policy : Policy) (later : List Event) → Step area (write_posted policy later) (flush_done policy later)
step_4 policy later = Settles incoming.Flush refl (at_rest refl refl)

step_5 : (policy : Policy) (later : List Event) → Step area (flush_done policy (event.Step 1 ∷ later)) (half_written policy later)
step_5 policy later = BringsNone _ (between refl refl refl refl) refl (runs_event (event.Step 1) _ refl refl refl refl (record {
  step = Some Working;
  disks = _;
  steps = CurrentSteps Working (slot at_second) (disk new_0 old_1 1) refl refl (begins_write 1 old_0 old_1 refl refl);
  after = (refl, refl);
}))

-- the flush, in four steps
pub flushes : (policy : Policy) (later : List Event) → Runs area (start policy (event.Flush ∷ later)) (flush_done policy later)
flushes policy later = Starts ▸ step_1 policy later ▸ step_2 policy later ▸ step_3 policy later ▸ step_4 policy later

-- and half of the write
pub writes_half : (policy : Policy) (later : List Event)
    → Runs area (start policy (event.Flush ∷ event.Step 1 ∷ later)) (half_written policy later)
writes_half policy later = flushes policy (event.Step 1 ∷ later) ▸ step_5 policy later
