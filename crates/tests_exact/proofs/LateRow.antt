-- A run with an answer that comes too late: driver 1 writes both sectors and answers, and dies before that is delivered. Driver 2 is
-- started, and the write is posted to it. Now the answer of driver 1 comes, and isn't counted; then that of driver 2, which is; then that
-- again, which isn't.
use Rattle.std.specs.Prelude.{List, [], ◌∷◌, Some, None, true, refl}
use Rattle.std.specs.List.{concat}
use Rattle.std.proofs.Common.{lit≤, inl}
use Rattle.message.specs.declared.Incoming.TheVariants as incoming
use Rattle.bdev.specs.declared.Step.TheVariants.{Working, Done}
use Rattle.reincarnate.specs.Policy.{default_policy}
use Rattle.reincarnate.specs.Watch as restart
use Rattle.reincarnate.specs.Watch.{Running, Waiting, driver}
use Rattle.records.specs.declared.marks.Cause.TheVariants.{Exit}
use Rattle.records.specs.Marks.{Started, Answered, Flush, Issued}
use Rattle.records.specs.Marks as mark
use Rattle.records.specs.Told.{Posted}
use Rattle.schedule.specs.declared.Sent.{Sent}
use Rattle.schedule.specs.declared.Event.{Event}
use Rattle.schedule.specs.declared.Event.TheVariants as event
use Rattle.schedule.specs.declared.log.LogEntry.TheVariants as entry
use Rattle.schedule.specs.Headline.{Transcript}
use Rattle.schedule.specs.Noted.{with_entry}
use Rattle.simulated_link.specs.declared.events.ruling.Ruling.TheVariants.{Fault}
use Rattle.simulated_link.specs.Disks.{Disks, Slot, lined_up, dead_slot, CurrentSteps, CurrentDies}
use Rattle.simulated_link.specs.RunState.{begun}
use Rattle.simulated_link.specs.Scene.{Scene}
use Rattle.simulated_link.specs.StateView.{posted}
use Rattle.simulated_link.specs.Moments.{Moment, Resting, hearing, at_link, Step, Settles, Brings, BringsNone, Runs}
use Rattle.world.specs.Exact.{IsExact}
use Rattle.tests_exact.proofs.Small.{area, sizes, sectors_with, old_1, new_0, new_1, image, disk, setup, idle, supply, write_both, write_fits}
use Rattle.tests_exact.proofs.Drivers.{slot, at_second, done, answer, reply_of, begins_write, ends_write}
use Rattle.tests_exact.proofs.Making.{◌▸◌, after_event, nothing_after, disks_after, runs_event, at_rest, between, posts}
use Rattle.tests_exact.proofs.Beginning.{start, half_written, opened, writes_half}

-- what comes after the flush and the first step
abbrev pub later : List Event
later =
    event.Step 1 ∷ event.Die 1 None ∷ event.Tick ∷ event.Deliver 0 ∷ event.Step 2 ∷ event.Step 2 ∷ event.Deliver 1 ∷ event.Deliver 1 ∷ []

-- the schedule
abbrev pub events : List Event
events = event.Flush ∷ event.Step 1 ∷ later

-- 0 to 5, by the default policy
abbrev pub half : Moment
half = half_written default_policy later

-- the answer of driver 1, which was sent at the event with number 2, and that of driver 2, which was sent at the one with number 7
abbrev pub first_answer : Sent
first_answer = record { reply = reply_of 1; place = 2 }

abbrev pub second_answer : Sent
second_answer = record { reply = reply_of 2; place = 7 }

-- 6: driver 1 wrote the second sector, and answered
abbrev pub written : Moment
written =
    let d : Disks = record { media = disk new_0 new_1 1; current = slot done; older = []; sent = first_answer ∷ [] } in
    record half { run = disks_after (event.Step 1) d half.run }

-- driver 1 dies: an exit is noted, and the next start comes at tick 1
abbrev pub death : Scene
death = record (begun (event.Die 1 None) written.run.scene) {
  disks = record { media = disk new_0 new_1 1; current = dead_slot (slot done); older = []; sent = first_answer ∷ [] };
  watch = record { spares = 1; generation = 1; fault = Some (record { number = 1; tick = 0 }); phase = Waiting 1 };
  noted = with_entry (entry.Faulted (driver 1) Exit) (begun (event.Die 1 None) written.run.scene).noted;
}

-- 7: so it stands
abbrev pub dead : Moment
dead = record written { run = after_event (event.Die 1 None) death written.run }

-- driver 2 is started, and the media adopt generation 2
abbrev pub restart_at_1 : Scene
restart_at_1 = record (begun event.Tick dead.run.scene) {
  disks = record { media = disk new_0 new_1 2; current = slot idle; older = dead_slot (slot done) ∷ []; sent = first_answer ∷ [] };
  supply = [];
  watch = record { spares = 0; generation = 2; fault = Some (record { number = 1; tick = 0 }); phase = Running (0, 0) 0 };
  tick = 1;
}

-- 8: the server hears of it, and is to post the write again
abbrev pub restarted : Moment
restarted = hearing (incoming.Started (driver 2)) (after_event event.Tick restart_at_1 dead.run) dead

-- 9: it posted it to driver 2
abbrev pub posted_again : Moment
posted_again = at_link (Posted (driver 2) write_both true)
    (posted (driver 2) write_both true (lined_up write_both restarted.run.scene.disks) restarted.run) restarted

-- 10: it rests
abbrev pub restart_heard : Moment
restart_heard = record posted_again { doing = Resting }

-- 11: the answer of driver 1 comes, and leaves no mark
abbrev pub late_heard : Moment
late_heard = hearing (incoming.Reply (reply_of 1)) (nothing_after (event.Deliver 0) restart_heard.run) restart_heard

-- 12: the server rests
abbrev pub late_done : Moment
late_done = record late_heard { doing = Resting }

-- 13: driver 2 wrote the first sector
abbrev pub half_again : Moment
half_again =
    let older : List Slot = dead_slot (slot done) ∷ [] in
    let d : Disks = record { media = disk new_0 new_1 2; current = slot at_second; older = older; sent = first_answer ∷ [] } in
    record late_done { run = disks_after (event.Step 2) d late_done.run }

-- 14: it wrote the second, and answered
abbrev pub written_again : Moment
written_again =
    let older : List Slot = dead_slot (slot done) ∷ [] in
    let d : Disks = record { media = disk new_0 new_1 2; current = slot done; older = older; sent = first_answer ∷ second_answer ∷ [] } in
    record half_again { run = disks_after (event.Step 2) d half_again.run }

-- 15: its answer comes, and is counted
abbrev pub answer_heard : Moment
answer_heard = hearing (incoming.Reply (reply_of 2)) (nothing_after (event.Deliver 1) written_again.run) written_again

-- 16: the server rests
abbrev pub answer_done : Moment
answer_done = record answer_heard { doing = Resting }

-- 17: it comes again, and leaves no mark
abbrev pub heard_again : Moment
heard_again = hearing (incoming.Reply (reply_of 2)) (nothing_after (event.Deliver 1) answer_done.run) answer_done

-- 18: the server rests
abbrev pub all_done : Moment
all_done = record heard_again { doing = Resting }

step_6 : Step area half written
step_6 = BringsNone _ (between refl refl refl refl) refl (runs_event (event.Step 1) _ refl refl refl refl (record {
  step = Some (Done answer);
  disks = _;
  steps = CurrentSteps (Done answer) (slot done) (disk new_0 new_1 1) refl refl (ends_write 1 new_0 old_1 refl refl);
  after = (refl, refl);
}))

step_7 : Step area written dead
step_7 = BringsNone _ (between refl refl refl refl) refl (runs_event (event.Die 1 None) death refl refl refl refl (record {
  died = true;
  disks = _;
  dies = CurrentDies refl refl;
  after = record { ruling = Fault; is = refl; tells = refl; after = refl };
}))

step_8 : Step area dead restarted
step_8 = Brings (incoming.Started (driver 2)) _ (between refl refl refl refl) refl
    (runs_event event.Tick restart_at_1 refl refl refl refl (record {
      action = restart.Start (driver 2);
      is = refl;
      spare = λ e h. (idle, [], refl);
      tells = refl;
      after = refl;
    }))

step_9 : Step area restarted posted_again
step_9 = posts (driver 2) write_both refl refl refl refl refl write_fits refl refl (lit≤ tt)

step_10 : Step area posted_again restart_heard
step_10 = Settles (incoming.Started (driver 2)) refl (at_rest refl refl)

step_11 : Step area restart_heard late_heard
step_11 = Brings (incoming.Reply (reply_of 1)) _ (between refl refl refl refl) refl
    (runs_event (event.Deliver 0) _ refl refl refl refl (refl, refl))

step_12 : Step area late_heard late_done
step_12 = Settles (incoming.Reply (reply_of 1)) refl (at_rest refl refl)

step_13 : Step area late_done half_again
step_13 = BringsNone _ (between refl refl refl refl) refl (runs_event (event.Step 2) _ refl refl refl refl (record {
  step = Some Working;
  disks = _;
  steps = CurrentSteps Working (slot at_second) (disk new_0 new_1 2) refl refl (begins_write 2 new_0 new_1 refl refl);
  after = (refl, refl);
}))

step_14 : Step area half_again written_again
step_14 = BringsNone _ (between refl refl refl refl) refl (runs_event (event.Step 2) _ refl refl refl refl (record {
  step = Some (Done answer);
  disks = _;
  steps = CurrentSteps (Done answer) (slot done) (disk new_0 new_1 2) refl refl (ends_write 2 new_0 new_1 refl refl);
  after = (refl, refl);
}))

step_15 : Step area written_again answer_heard
step_15 = Brings (incoming.Reply (reply_of 2)) _ (between refl refl refl refl) refl
    (runs_event (event.Deliver 1) _ refl refl refl refl (refl, refl))

step_16 : Step area answer_heard answer_done
step_16 = Settles (incoming.Reply (reply_of 2)) refl (at_rest refl refl)

step_17 : Step area answer_done heard_again
step_17 = Brings (incoming.Reply (reply_of 2)) _ (between refl refl refl refl) refl
    (runs_event (event.Deliver 1) _ refl refl refl refl (refl, refl))

step_18 : Step area heard_again all_done
step_18 = Settles (incoming.Reply (reply_of 2)) refl (at_rest refl refl)

-- the row
row : Runs area (start default_policy events) all_done
row = writes_half default_policy later ▸ step_6 ▸ step_7 ▸ step_8 ▸ step_9 ▸ step_10 ▸ step_11 ▸ step_12 ▸ step_13 ▸ step_14 ▸ step_15
    ▸ step_16 ▸ step_17 ▸ step_18

-- what is read off: of three messages that brought an answer one left a mark
abbrev pub transcript : Transcript
transcript = record {
  marks = Answered (reply_of 2) ∷ Issued write_both (driver 2) ∷ Started (driver 2) ∷ mark.Fault (driver 1) Exit
      ∷ Issued write_both (driver 1) ∷ Flush ∷ Started (driver 1) ∷ [];
  sent = first_answer ∷ second_answer ∷ [];
  drivers = done ∷ done ∷ [];
  frames = λ block. None;
  unanswered = 0;
  image = concat (sectors_with new_0 new_1);
}

-- the run is the schedule's, exactly
pub late_is_exact : IsExact sizes image (setup default_policy) supply events transcript
late_is_exact = record {
  first = (start default_policy events).run;
  opened = opened default_policy events;
  last = all_done;
  steps = row;
  over = record { spent = record { events = lit≤ tt; paid = refl }; calm = refl; ends = inl (refl, refl) };
  read_off = record { marks = refl; sent = refl; drivers = refl; image = refl; unanswered = refl };
}
