-- A run in which driver 1 hangs in the write and is replaced while it lives: what it does then reaches no sector, and its death tears none.
use Rattle.std.specs.Prelude.{List, [], ◌∷◌, Some, None, true, refl}
use Rattle.std.specs.List.{concat}
use Rattle.std.proofs.Common.{lit≤, inl}
use Rattle.message.specs.declared.Incoming.TheVariants as incoming
use Rattle.bdev.specs.declared.Step.TheVariants.{Working}
use Rattle.reincarnate.specs.declared.policy.Policy.{Policy}
use Rattle.reincarnate.specs.Policy.{default_policy}
use Rattle.reincarnate.specs.Watch as restart
use Rattle.reincarnate.specs.Watch.{Running, Waiting, driver}
use Rattle.records.specs.declared.marks.Cause.TheVariants.{Hung}
use Rattle.records.specs.Marks.{Started, Flush, Issued, Fault}
use Rattle.records.specs.Told.{Posted}
use Rattle.schedule.specs.declared.Event.{Event}
use Rattle.schedule.specs.declared.Event.TheVariants as event
use Rattle.schedule.specs.declared.log.LogEntry.TheVariants as entry
use Rattle.schedule.specs.Headline.{Transcript}
use Rattle.schedule.specs.Noted.{with_entry}
use Rattle.simulated_link.specs.declared.events.ruling.Ruling.TheVariants.{Ignored}
use Rattle.simulated_link.specs.Disks.{Slot, Disks, lined_up, dead_slot, hung_slot, OlderSteps, CurrentHangs, OlderDies}
use Rattle.simulated_link.specs.RunState.{begun}
use Rattle.simulated_link.specs.Scene.{Scene}
use Rattle.simulated_link.specs.StateView.{posted}
use Rattle.simulated_link.specs.Moments.{Moment, Resting, hearing, at_link, Step, Settles, Brings, BringsNone, Runs}
use Rattle.world.specs.Exact.{IsExact}
use Rattle.tests_exact.proofs.Small.{area, sizes, sectors_with, old_1, torn, new_0, image, disk, setup, idle, supply, write_both, write_fits}
use Rattle.tests_exact.proofs.Drivers.{slot, at_second, moves_nothing}
use Rattle.tests_exact.proofs.Making.{◌▸◌, after_event, disks_after, runs_event, at_rest, between, posts}
use Rattle.tests_exact.proofs.Beginning.{start, half_written, opened, writes_half}

-- a driver that misses one heartbeat is replaced
abbrev pub quick : Policy
quick = record default_policy { misses = 1 }

-- what comes after the flush and the first step
abbrev later : List Event
later = event.Hang 1 ∷ event.Tick ∷ event.Tick ∷ event.Step 1 ∷ event.Die 1 (Some torn) ∷ []

-- the schedule
abbrev pub events : List Event
events = event.Flush ∷ event.Step 1 ∷ later

-- 0 to 5, by this policy
abbrev pub half : Moment
half = half_written quick later

-- driver 1, which hangs in the second sector
abbrev pub hanging : Slot
hanging = hung_slot (slot at_second)

-- 6: it hangs
abbrev pub hung : Moment
hung =
    let d : Disks = record { media = disk new_0 old_1 1; current = hanging; older = []; sent = [] } in
    record half { run = disks_after (event.Hang 1) d half.run }

-- at tick 1 its heartbeat is missed: a fault is noted, and the next start comes at tick 2
abbrev pub missed_at_1 : Scene
missed_at_1 = record (begun event.Tick hung.run.scene) {
  watch = record { spares = 1; generation = 1; fault = Some (record { number = 1; tick = 1 }); phase = Waiting 2 };
  tick = 1;
  noted = with_entry (entry.Faulted (driver 1) Hung) (begun event.Tick hung.run.scene).noted;
}

-- 7: so it stands
abbrev pub missed : Moment
missed = record hung { run = after_event event.Tick missed_at_1 hung.run }

-- driver 2 is started, and the media adopt generation 2
abbrev pub restart_at_2 : Scene
restart_at_2 = record (begun event.Tick missed.run.scene) {
  disks = record { media = disk new_0 old_1 2; current = slot idle; older = hanging ∷ []; sent = [] };
  supply = [];
  watch = record { spares = 0; generation = 2; fault = Some (record { number = 1; tick = 1 }); phase = Running (0, 0) 0 };
  tick = 2;
}

-- 8: the server hears of it
abbrev pub restarted : Moment
restarted = hearing (incoming.Started (driver 2)) (after_event event.Tick restart_at_2 missed.run) missed

-- 9: it posts the write to driver 2
abbrev pub posted_again : Moment
posted_again = at_link (Posted (driver 2) write_both true)
    (posted (driver 2) write_both true (lined_up write_both restarted.run.scene.disks) restarted.run) restarted

-- 10: it rests
abbrev pub restart_heard : Moment
restart_heard = record posted_again { doing = Resting }

-- the media and drivers with driver 1 in this state
abbrev pub disks_with : Slot → Disks
disks_with first = record {
  media = disk new_0 old_1 2;
  current = record (slot idle) { line = write_both ∷ [] };
  older = first ∷ [];
  sent = [];
}

-- 11: driver 1 steps, and moves nothing
abbrev pub stepped : Moment
stepped = record restart_heard { run = disks_after (event.Step 1) (disks_with hanging) restart_heard.run }

-- 12: driver 1 dies, and tears nothing
abbrev pub dead : Moment
dead = record stepped { run = disks_after (event.Die 1 (Some torn)) (disks_with (dead_slot hanging)) stepped.run }

step_6 : Step area half hung
step_6 = BringsNone _ (between refl refl refl refl) refl
    (runs_event (event.Hang 1) _ refl refl refl refl (record { tells = refl; disks = _; does = CurrentHangs refl; after = refl }))

step_7 : Step area hung missed
step_7 = BringsNone _ (between refl refl refl refl) refl (runs_event event.Tick missed_at_1 refl refl refl refl (record {
  action = restart.WaitUntil 2;
  is = refl;
  spare = λ e h. cc;
  tells = refl;
  after = refl;
}))

step_8 : Step area missed restarted
step_8 = Brings (incoming.Started (driver 2)) _ (between refl refl refl refl) refl
    (runs_event event.Tick restart_at_2 refl refl refl refl (record {
      action = restart.Start (driver 2);
      is = refl;
      spare = λ e h. (idle, [], refl);
      tells = refl;
      after = refl;
    }))

step_9 : Step area restarted posted_again
step_9 = posts (driver 2) write_both refl refl refl refl refl write_fits refl refl (lit≤ tt)

step_10 : Step area posted_again restart_heard
step_10 = Settles (incoming.Started (driver 2)) refl (at_rest refl refl)

step_11 : Step area restart_heard stepped
step_11 = BringsNone _ (between refl refl refl refl) refl (runs_event (event.Step 1) _ refl refl refl refl (record {
  step = Some Working;
  disks = _;
  steps = OlderSteps 0 hanging hanging Working (disk new_0 old_1 2) (record { number = refl; older = lit≤ tt; there = refl }) refl
      (moves_nothing 1 (disk new_0 old_1 2));
  after = (refl, refl);
}))

step_12 : Step area stepped dead
step_12 = BringsNone _ (between refl refl refl refl) refl (runs_event (event.Die 1 (Some torn)) _ refl refl refl refl (record {
  died = true;
  disks = _;
  dies = OlderDies 0 hanging (record { number = refl; older = lit≤ tt; there = refl }) refl;
  after = record { ruling = Ignored; is = refl; tells = refl; after = refl };
}))

-- the row
row : Runs area (start quick events) dead
row = writes_half quick later ▸ step_6 ▸ step_7 ▸ step_8 ▸ step_9 ▸ step_10 ▸ step_11 ▸ step_12

-- what is read off: the second sector is as it was
abbrev pub transcript : Transcript
transcript = record {
  marks = Issued write_both (driver 2) ∷ Started (driver 2) ∷ Fault (driver 1) Hung ∷ Issued write_both (driver 1) ∷ Flush
      ∷ Started (driver 1) ∷ [];
  sent = [];
  drivers = at_second ∷ idle ∷ [];
  frames = λ block. None;
  unanswered = 0;
  image = concat (sectors_with new_0 old_1);
}

-- the run is the schedule's, exactly
pub hung_is_exact : IsExact sizes image (setup quick) supply events transcript
hung_is_exact = record {
  first = (start quick events).run;
  opened = opened quick events;
  last = dead;
  steps = row;
  over = record { spent = record { events = lit≤ tt; paid = refl }; calm = refl; ends = inl (refl, refl) };
  read_off = record { marks = refl; sent = refl; drivers = refl; image = refl; unanswered = refl };
}
