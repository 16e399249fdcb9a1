-- A run in which a post is refused, since driver 1 is dead; driver 2 gets the write at its start, and once more by a repeat, and answers an
-- error. No driver is left: the device is given up, which the server is told within the sync that waits for the write.
use Rattle.std.specs.Prelude.{List, [], ◌∷◌, Some, None, Err, true, false, refl}
use Rattle.std.specs.List.{concat}
use Rattle.std.proofs.Common.{lit≤, inl}
use Rattle.errno.specs.declared.Errno.TheVariants.{EIO}
use Rattle.message.specs.declared.Incoming.TheVariants as incoming
use Rattle.tree.specs.declared.Reply.TheVariants as reply
use Rattle.tree.specs.Answers as answer
use Rattle.bdev.specs.declared.Step.TheVariants.{Done}
use Rattle.reincarnate.specs.Policy.{default_policy}
use Rattle.reincarnate.specs.Watch as restart
use Rattle.reincarnate.specs.Watch.{Running, Waiting, driver}
use Rattle.records.specs.declared.marks.Cause.TheVariants.{Exit, Complaint}
use Rattle.records.specs.Marks.{Started, Answered, Flush, GaveUp, Took, Issued}
use Rattle.records.specs.Marks as mark
use Rattle.records.specs.Told.{Posted, Complained, Received}
use Rattle.reissue.specs.declared.link.LinkRefusal.TheVariants.{DeadEndpoint}
use Rattle.schedule.specs.declared.Sent.{Sent}
use Rattle.schedule.specs.declared.Event.{Event}
use Rattle.schedule.specs.declared.Event.TheVariants as event
use Rattle.schedule.specs.declared.log.LogEntry.TheVariants as entry
use Rattle.schedule.specs.Headline.{Transcript}
use Rattle.schedule.specs.Noted.{with_entry}
use Rattle.simulated_link.specs.declared.events.ruling.Ruling.TheVariants.{Fault}
use Rattle.simulated_link.specs.Disks.{Disks, Slot, lined_up, dead_slot, NoneIsThere, CurrentDies, CurrentSteps, CurrentLinesUp}
use Rattle.simulated_link.specs.RunState.{begun}
use Rattle.simulated_link.specs.Scene.{Scene}
use Rattle.simulated_link.specs.StateView as link
use Rattle.simulated_link.specs.StateView.{RunState, RunsEvent, noting, paid, complained, posted, Stays, Goes}
use Rattle.simulated_link.specs.Moments.{Moment, Resting, Answering, hearing, at_link, Runs, Starts, Step, Begins, Tells, Takes, Settles}
use Rattle.simulated_link.specs.Moments.{Brings, BringsNone, HandsCall, Replies}
use Rattle.world.specs.Exact.{IsExact}
use Rattle.tests_exact.proofs.Small.{area, sizes, sectors_with, old_0, old_1, image, disk, setup, idle, supply, write_both, write_fits, client, sync}
use Rattle.tests_exact.proofs.Drivers.{slot, failing, error, error_of, fails_write}
use Rattle.tests_exact.proofs.Making.{◌▸◌, after_event, nothing_after, disks_after, runs_event, at_rest, between, posts}
use Rattle.tests_exact.proofs.Beginning.{start, opened}

-- the schedule
abbrev pub events : List Event
events =
    event.Die 1 None ∷ event.Flush ∷ event.Tick ∷ event.Repeat 0 ∷ event.Arrive client 100 sync.call ∷ event.Step 2 ∷ event.Deliver 0 ∷ []

-- 0: driver 1 runs
abbrev pub first : Moment
first = start default_policy events

-- driver 1 dies, and tears nothing: an exit is noted, and the next start comes at tick 1
abbrev pub death : Scene
death = record (begun (event.Die 1 None) first.run.scene) {
  disks = record { media = disk old_0 old_1 1; current = dead_slot (slot idle); older = []; sent = [] };
  watch = record { spares = 1; generation = 1; fault = Some (record { number = 1; tick = 0 }); phase = Waiting 1 };
  noted = with_entry (entry.Faulted (driver 1) Exit) (begun (event.Die 1 None) first.run.scene).noted;
}

-- 1: so it stands
abbrev pub dead : Moment
dead = record first { run = after_event (event.Die 1 None) death first.run }

-- 2: a flush comes
abbrev pub flush_heard : Moment
flush_heard = hearing incoming.Flush (nothing_after event.Flush dead.run) dead

-- 3: a write became pending
abbrev pub write_begun : Moment
write_begun = record flush_heard {
  outbox = record { never_issued = write_both ∷ []; unposted = write_both ∷ []; stopped = false; complaint = None };
}

-- 4: it was posted, and refused: no driver is there
abbrev pub refused : Moment
refused = at_link (Posted (driver 1) write_both false)
    (posted (driver 1) write_both false write_begun.run.scene.disks write_begun.run) write_begun

-- 5: the server rests, and the write is pending
abbrev pub flush_done : Moment
flush_done = record refused { doing = Resting }

-- driver 2 is started, and the media adopt generation 2
abbrev pub restart_at_1 : Scene
restart_at_1 = record (begun event.Tick flush_done.run.scene) {
  disks = record { media = disk old_0 old_1 2; current = slot idle; older = dead_slot (slot idle) ∷ []; sent = [] };
  supply = [];
  watch = record { spares = 0; generation = 2; fault = Some (record { number = 1; tick = 0 }); phase = Running (0, 0) 0 };
  tick = 1;
}

-- 6: the server hears of it
abbrev pub restarted : Moment
restarted = hearing (incoming.Started (driver 2)) (after_event event.Tick restart_at_1 flush_done.run) flush_done

-- 7: the write is posted to driver 2
abbrev pub write_posted : Moment
write_posted = at_link (Posted (driver 2) write_both true)
    (posted (driver 2) write_both true (lined_up write_both restarted.run.scene.disks) restarted.run) restarted

-- 8: the server rests
abbrev pub restart_heard : Moment
restart_heard = record write_posted { doing = Resting }

-- 9: the write is on the line of driver 2 once more
abbrev pub repeated : Moment
repeated = record restart_heard { run = disks_after (event.Repeat 0) (lined_up write_both restart_heard.run.scene.disks) restart_heard.run }

-- 10: a client's sync waits
abbrev pub sync_waits : Moment
sync_waits = record repeated { run = nothing_after (event.Arrive client 100 sync.call) repeated.run }

-- 11: the server answers it
abbrev pub sync_begun : Moment
sync_begun = record sync_waits { run = record (sync_waits.run) { queue = [] }; doing = Answering sync }

-- the error, which was sent at the event with number 5
abbrev pub answered : Sent
answered = record { reply = error_of 2; place = 5 }

-- driver 2, which has the repeated write on its line
abbrev pub failed_slot : Slot
failed_slot = record (slot failing) { line = write_both ∷ [] }

-- driver 2 fails the write, and answers it
abbrev pub failed : RunState
failed =
    let older : List Slot = dead_slot (slot idle) ∷ [] in
    let d : Disks = record { media = disk old_0 old_1 2; current = failed_slot; older = older; sent = answered ∷ [] } in
    disks_after (event.Step 2) d sync_begun.run

-- 12: that is delivered, and a complaint is due
abbrev pub error_taken : Moment
error_taken = at_link (Received (incoming.Reply (error_of 2)))
    (noting (entry.Received (incoming.Reply (error_of 2))) (nothing_after (event.Deliver 0) failed)) sync_begun

-- 13: the server complains; no driver is left, and the device is given up
abbrev pub complaint_made : Moment
complaint_made = at_link (Complained (driver 2)) (complained (driver 2) error_taken.run) error_taken

-- 14: within the call it is told so
abbrev pub told : Moment
told = at_link (Received incoming.GaveUp) (noting (entry.Received incoming.GaveUp) (paid complaint_made.run)) complaint_made

-- 15: the sync is answered by EIO
abbrev pub sync_failed : Moment
sync_failed = record told { run = noting (entry.Took client 100 sync.call (reply.Refused EIO)) told.run; doing = Resting }

step_1 : Step area first dead
step_1 = BringsNone _ (between refl refl refl refl) refl (runs_event (event.Die 1 None) death refl refl refl refl (record {
  died = true;
  disks = _;
  dies = CurrentDies refl refl;
  after = record { ruling = Fault; is = refl; tells = refl; after = refl };
}))

step_2 : Step area dead flush_heard
step_2 = Brings incoming.Flush _ (between refl refl refl refl) refl (runs_event event.Flush _ refl refl refl refl (refl, refl))

step_3 : Step area flush_heard write_begun
step_3 = Begins write_both refl (record { next = refl; room = lit≤ tt })

step_4 : Step area write_begun refused
step_4 = Tells (Posted (driver 1) write_both false) _ refl refl
    (record { complained = refl; endpoint = refl; not_stopped = refl; first = refl; fits = write_fits })
    (link.Posts (driver 1) write_both (Err DeadEndpoint) _ refl (NoneIsThere refl))

step_5 : Step area refused flush_done
step_5 = Settles incoming.Flush refl (at_rest refl refl)

step_6 : Step area flush_done restarted
step_6 = Brings (incoming.Started (driver 2)) _ (between refl refl refl refl) refl
    (runs_event event.Tick restart_at_1 refl refl refl refl (record {
      action = restart.Start (driver 2);
      is = refl;
      spare = λ e h. (idle, [], refl);
      tells = refl;
      after = refl;
    }))

step_7 : Step area restarted write_posted
step_7 = posts (driver 2) write_both refl refl refl refl refl write_fits refl refl (lit≤ tt)

step_8 : Step area write_posted restart_heard
step_8 = Settles (incoming.Started (driver 2)) refl (at_rest refl refl)

step_9 : Step area restart_heard repeated
step_9 = BringsNone _ (between refl refl refl refl) refl
    (runs_event (event.Repeat 0) _ refl refl refl refl
    (record { tells = refl; disks = _; does = CurrentLinesUp refl refl (lit≤ tt); after = refl }))

step_10 : Step area repeated sync_waits
step_10 = BringsNone _ (between refl refl refl refl) refl
    (runs_event (event.Arrive client 100 sync.call) _ refl refl refl refl (refl, refl))

step_11 : Step area sync_waits sync_begun
step_11 = HandsCall sync _ (between refl refl refl refl) refl (record { first = refl; after = refl })

fails : RunsEvent sync_begun.run None failed
fails = runs_event (event.Step 2) _ refl refl refl refl (record {
  step = Some (Done error);
  disks = _;
  steps = CurrentSteps (Done error) failed_slot (disk old_0 old_1 2) refl refl (fails_write 2 (disk old_0 old_1 2) (write_both ∷ []));
  after = (refl, refl);
})

delivers : RunsEvent failed (Some (incoming.Reply (error_of 2))) (nothing_after (event.Deliver 0) failed)
delivers = runs_event (event.Deliver 0) _ refl refl refl refl (refl, refl)

step_12 : Step area sync_begun error_taken
step_12 = Takes (incoming.Reply (error_of 2)) sync _ refl (record { at_rest = at_rest refl refl; live = refl; needed = refl })
    (link.Takes (incoming.Reply (error_of 2)) _ (Goes _ _ (Some (incoming.Reply (error_of 2))) (Goes _ _ None Stays fails) delivers))

step_13 : Step area error_taken complaint_made
step_13 = Tells (Complained (driver 2)) _ refl refl refl (link.Complains (driver 2))

step_14 : Step area complaint_made told
step_14 = Takes incoming.GaveUp sync _ refl (record { at_rest = at_rest refl refl; live = refl; needed = refl })
    (link.TakesOwed refl refl refl)

step_15 : Step area told sync_failed
step_15 = Replies sync (reply.Refused EIO) refl refl (at_rest refl refl)

-- the row
row : Runs area first sync_failed
row = Starts ▸ step_1 ▸ step_2 ▸ step_3 ▸ step_4 ▸ step_5 ▸ step_6 ▸ step_7 ▸ step_8 ▸ step_9 ▸ step_10 ▸ step_11 ▸ step_12 ▸ step_13
    ▸ step_14 ▸ step_15

-- what is read off: the post that was refused left no mark
abbrev pub transcript : Transcript
transcript = record {
  marks = Took client 100 sync.call (answer.refused EIO) ∷ GaveUp ∷ mark.Fault (driver 2) Complaint ∷ Answered (error_of 2)
      ∷ Issued write_both (driver 2) ∷ Started (driver 2) ∷ Flush ∷ mark.Fault (driver 1) Exit ∷ Started (driver 1) ∷ [];
  sent = answered ∷ [];
  drivers = idle ∷ failing ∷ [];
  frames = λ block. None;
  unanswered = 0;
  image = concat (sectors_with old_0 old_1);
}

-- the run is the schedule's, exactly
pub refused_is_exact : IsExact sizes image (setup default_policy) supply events transcript
refused_is_exact = record {
  first = first.run;
  opened = opened default_policy events;
  last = sync_failed;
  steps = row;
  over = record { spent = record { events = lit≤ tt; paid = refl }; calm = refl; ends = inl (refl, refl) };
  read_off = record { marks = refl; sent = refl; drivers = refl; image = refl; unanswered = refl };
}
