-- A run from its first moment to its last: the server flushes, driver 1 dies in the second sector of the write and tears it, driver 2 is
-- started at the next tick and writes both sectors, and a client's sync takes the answer and is done.
use Rattle.std.specs.Prelude.{List, [], ◌∷◌, Some, None, true, refl}
use Rattle.std.specs.List.{concat}
use Rattle.std.proofs.Common.{lit≤, inl}
use Rattle.message.specs.declared.Incoming.TheVariants as incoming
use Rattle.bdev.specs.declared.Step.TheVariants.{Working, Done}
use Rattle.tree.specs.declared.Reply.TheVariants as reply
use Rattle.tree.specs.Answers as tree_answer
use Rattle.reincarnate.specs.Policy.{default_policy}
use Rattle.reincarnate.specs.Watch as restart
use Rattle.reincarnate.specs.Watch.{Running, Waiting, driver}
use Rattle.records.specs.declared.marks.Cause.TheVariants.{Exit}
use Rattle.records.specs.Marks.{Started, Answered, Flush, Took, Issued}
use Rattle.records.specs.Marks as mark
use Rattle.records.specs.Told.{Posted, Received}
use Rattle.schedule.specs.declared.Sent.{Sent}
use Rattle.schedule.specs.declared.Event.{Event}
use Rattle.schedule.specs.declared.Event.TheVariants as event
use Rattle.schedule.specs.declared.log.LogEntry.TheVariants as entry
use Rattle.schedule.specs.Headline.{Transcript}
use Rattle.schedule.specs.Noted.{with_entry}
use Rattle.simulated_link.specs.declared.events.ruling.Ruling.TheVariants.{Fault}
use Rattle.simulated_link.specs.Disks.{Disks, Slot, lined_up, dead_slot, CurrentSteps, CurrentDies}
use Rattle.simulated_link.specs.RunState.{begun}
use Rattle.simulated_link.specs.Scene.{Scene}
use Rattle.simulated_link.specs.StateView.{RunState, noting, posted, first_noted, Stays, Goes}
use Rattle.simulated_link.specs.StateView as link
use Rattle.simulated_link.specs.Moments.{Moment, Resting, Answering, hearing, at_link, Step, Takes, Settles, Brings, BringsNone, HandsCall}
use Rattle.simulated_link.specs.Moments.{Replies, Runs, Starts}
use Rattle.world.specs.Exact.{IsExact}
use Rattle.tests_exact.proofs.Small.{area, sizes, sectors_with, torn, new_0, new_1, image, disk, setup, idle, supply, write_both, write_fits, client, sync}
use Rattle.tests_exact.proofs.Drivers.{slot, at_second, done, answer, reply_of, begins_write, ends_write}
use Rattle.tests_exact.proofs.Making.{◌▸◌, after_event, nothing_after, disks_after, runs_event, at_rest, between, posts}
use Rattle.tests_exact.proofs.Beginning.{start, half_written, opened, writes_half}

-- what comes after the flush and the first step
abbrev pub later : List Event
later = event.Die 1 (Some torn) ∷ event.Tick ∷ event.Step 2 ∷ event.Step 2 ∷ event.Arrive client 100 sync.call ∷ event.Deliver 0 ∷ []

-- the schedule
abbrev pub events : List Event
events = event.Flush ∷ event.Step 1 ∷ later

-- 0 to 5, by the default policy
abbrev pub half : Moment
half = half_written default_policy later

-- driver 1 dies in the second sector: it is torn, an exit is noted, and the next start comes at tick 1
abbrev pub death : Scene
death = record (begun (event.Die 1 (Some torn)) half.run.scene) {
  disks = record { media = disk new_0 torn 1; current = dead_slot (slot at_second); older = []; sent = [] };
  watch = record { spares = 1; generation = 1; fault = Some (record { number = 1; tick = 0 }); phase = Waiting 1 };
  noted = with_entry (entry.Faulted (driver 1) Exit) (begun (event.Die 1 (Some torn)) half.run.scene).noted;
}

-- 6: so it stands
abbrev pub dead : Moment
dead = record half { run = after_event (event.Die 1 (Some torn)) death half.run }

-- driver 2 is started, and the media adopt generation 2
abbrev pub restart_at_1 : Scene
restart_at_1 = record (begun event.Tick dead.run.scene) {
  disks = record { media = disk new_0 torn 2; current = slot idle; older = dead_slot (slot at_second) ∷ []; sent = [] };
  supply = [];
  watch = record { spares = 0; generation = 2; fault = Some (record { number = 1; tick = 0 }); phase = Running (0, 0) 0 };
  tick = 1;
}

-- 7: the server hears of it, and is to post the write again
abbrev pub restarted : Moment
restarted = hearing (incoming.Started (driver 2)) (after_event event.Tick restart_at_1 dead.run) dead

-- 8: it posted it to driver 2
abbrev pub posted_again : Moment
posted_again = at_link (Posted (driver 2) write_both true)
    (posted (driver 2) write_both true (lined_up write_both restarted.run.scene.disks) restarted.run) restarted

-- 9: it rests
abbrev pub restart_heard : Moment
restart_heard = record posted_again { doing = Resting }

-- 10: driver 2 wrote the first sector
abbrev pub half_again : Moment
half_again =
    let d : Disks = record { media = disk new_0 torn 2; current = slot at_second; older = dead_slot (slot at_second) ∷ []; sent = [] } in
    record restart_heard { run = disks_after (event.Step 2) d restart_heard.run }

-- the answer of driver 2, which was sent at the event with number 5
abbrev pub answered : Sent
answered = record { reply = reply_of 2; place = 5 }

-- 11: it wrote the second, and answered
abbrev pub written : Moment
written =
    let older : List Slot = dead_slot (slot at_second) ∷ [] in
    let d : Disks = record { media = disk new_0 new_1 2; current = slot done; older = older; sent = answered ∷ [] } in
    record half_again { run = disks_after (event.Step 2) d half_again.run }

-- 12: a client's sync waits
abbrev pub sync_waits : Moment
sync_waits = record written { run = nothing_after (event.Arrive client 100 sync.call) written.run }

-- 13: the server answers it
abbrev pub sync_begun : Moment
sync_begun = record sync_waits { run = record (sync_waits.run) { queue = [] }; doing = Answering sync }

-- 14: within it the answer of driver 2 was taken
abbrev pub answer_taken : Moment
answer_taken = at_link (Received (incoming.Reply (reply_of 2)))
    (noting (entry.Received (incoming.Reply (reply_of 2))) (nothing_after (event.Deliver 0) sync_begun.run))
    sync_begun

-- 15: the sync is done
abbrev pub sync_done : Moment
sync_done = record answer_taken { run = noting (entry.Took client 100 sync.call reply.Done) answer_taken.run; doing = Resting }

step_6 : Step area half dead
step_6 = BringsNone _ (between refl refl refl refl) refl (runs_event (event.Die 1 (Some torn)) death refl refl refl refl (record {
  died = true;
  disks = _;
  dies = CurrentDies refl refl;
  after = record { ruling = Fault; is = refl; tells = refl; after = refl };
}))

step_7 : Step area dead restarted
step_7 = Brings (incoming.Started (driver 2)) _ (between refl refl refl refl) refl
    (runs_event event.Tick restart_at_1 refl refl refl refl (record {
      action = restart.Start (driver 2);
      is = refl;
      spare = λ e h. (idle, [], refl);
      tells = refl;
      after = refl;
    }))

step_8 : Step area restarted posted_again
step_8 = posts (driver 2) write_both refl refl refl refl refl write_fits refl refl (lit≤ tt)

step_9 : Step area posted_again restart_heard
step_9 = Settles (incoming.Started (driver 2)) refl (at_rest refl refl)

step_10 : Step area restart_heard half_again
step_10 = BringsNone _ (between refl refl refl refl) refl (runs_event (event.Step 2) _ refl refl refl refl (record {
  step = Some Working;
  disks = _;
  steps = CurrentSteps Working (slot at_second) (disk new_0 torn 2) refl refl (begins_write 2 new_0 torn refl refl);
  after = (refl, refl);
}))

step_11 : Step area half_again written
step_11 = BringsNone _ (between refl refl refl refl) refl (runs_event (event.Step 2) _ refl refl refl refl (record {
  step = Some (Done answer);
  disks = _;
  steps = CurrentSteps (Done answer) (slot done) (disk new_0 new_1 2) refl refl (ends_write 2 new_0 torn refl refl);
  after = (refl, refl);
}))

step_12 : Step area written sync_waits
step_12 = BringsNone _ (between refl refl refl refl) refl
    (runs_event (event.Arrive client 100 sync.call) _ refl refl refl refl (refl, refl))

step_13 : Step area sync_waits sync_begun
step_13 = HandsCall sync _ (between refl refl refl refl) refl (record { first = refl; after = refl })

step_14 : Step area sync_begun answer_taken
step_14 = Takes (incoming.Reply (reply_of 2)) sync _ refl (record { at_rest = at_rest refl refl; live = refl; needed = refl })
    (link.Takes (incoming.Reply (reply_of 2)) _ (Goes _ _ (Some (incoming.Reply (reply_of 2))) Stays
    (runs_event (event.Deliver 0) _ refl refl refl refl (refl, refl))))

step_15 : Step area answer_taken sync_done
step_15 = Replies sync reply.Done refl refl (at_rest refl refl)

-- the row up to the sync's beginning
pub until_sync : Runs area (start default_policy events) sync_begun
until_sync = writes_half default_policy later ▸ step_6 ▸ step_7 ▸ step_8 ▸ step_9 ▸ step_10 ▸ step_11 ▸ step_12 ▸ step_13

-- the row up to the answer
pub until_answer : Runs area (start default_policy events) answer_taken
until_answer = until_sync ▸ step_14

-- the row
pub row : Runs area (start default_policy events) sync_done
row = until_answer ▸ step_15

-- the row from half of the first write on
pub from_half : Runs area half sync_done
from_half = Starts ▸ step_6 ▸ step_7 ▸ step_8 ▸ step_9 ▸ step_10 ▸ step_11 ▸ step_12 ▸ step_13 ▸ step_14 ▸ step_15

-- what is read off its last moment: the record, the reply that was sent, both drivers, no call left, and both sectors as they were written
abbrev pub transcript : Transcript
transcript = record {
  marks = Took client 100 sync.call tree_answer.done ∷ Answered (reply_of 2) ∷ Issued write_both (driver 2) ∷ Started (driver 2)
      ∷ mark.Fault (driver 1) Exit ∷ Issued write_both (driver 1) ∷ Flush ∷ Started (driver 1) ∷ [];
  sent = answered ∷ [];
  drivers = at_second ∷ done ∷ [];
  frames = λ block. None;
  unanswered = 0;
  image = concat (sectors_with new_0 new_1);
}

-- the run is the schedule's, exactly
unfoldable pub death_is_exact : IsExact sizes image (setup default_policy) supply events transcript
death_is_exact = record {
  first = (start default_policy events).run;
  opened = opened default_policy events;
  last = sync_done;
  steps = row;
  over = record { spent = record { events = lit≤ tt; paid = refl }; calm = refl; ends = inl (refl, refl) };
  read_off = record { marks = refl; sent = refl; drivers = refl; image = refl; unanswered = refl };
}
