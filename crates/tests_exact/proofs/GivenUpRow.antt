-- A run in which the device is given up: driver 1 answers an error within a call, the server complains, and the policy allows no fault.
-- The call is still answered; then the server is told, before the next call is handed out.
use Rattle.std.specs.Prelude.{List, [], ◌∷◌, Some, None, refl}
use Rattle.std.specs.List.{concat}
use Rattle.std.proofs.Common.{lit≤, inl}
use Rattle.errno.specs.declared.Errno.TheVariants.{EIO}
use Rattle.message.specs.declared.Incoming.TheVariants as incoming
use Rattle.tree.specs.declared.Reply.TheVariants as reply
use Rattle.tree.specs.Answers as answer
use Rattle.bdev.specs.declared.Step.TheVariants.{Done}
use Rattle.reincarnate.specs.declared.policy.Policy.{Policy}
use Rattle.reincarnate.specs.Policy.{default_policy}
use Rattle.reincarnate.specs.Watch.{driver}
use Rattle.records.specs.declared.marks.Cause.TheVariants.{Complaint}
use Rattle.records.specs.Marks.{Started, Answered, Flush, GaveUp, Took, Issued, Fault}
use Rattle.records.specs.Told.{Complained, Received}
use Rattle.schedule.specs.declared.Sent.{Sent}
use Rattle.schedule.specs.declared.Event.{Event}
use Rattle.schedule.specs.declared.Event.TheVariants as event
use Rattle.schedule.specs.declared.log.LogEntry.TheVariants as entry
use Rattle.schedule.specs.Headline.{Transcript}
use Rattle.simulated_link.specs.Disks.{Disks, CurrentSteps}
use Rattle.simulated_link.specs.StateView as link
use Rattle.simulated_link.specs.StateView.{RunState, RunsEvent, noting, paid, complained, Stays, Goes}
use Rattle.simulated_link.specs.Moments.{Moment, Resting, Answering, hearing, at_link, Step, Tells, Takes, Settles, BringsNone, Pays}
use Rattle.simulated_link.specs.Moments.{HandsCall, Replies, Runs}
use Rattle.world.specs.Exact.{IsExact}
use Rattle.tests_exact.proofs.Small.{area, sizes, sectors_with, old_0, old_1, image, disk, setup, supply, write_both, client, close, sync}
use Rattle.tests_exact.proofs.Drivers.{slot, failing, error, error_of, fails_write}
use Rattle.tests_exact.proofs.Making.{◌▸◌, nothing_after, disks_after, runs_event, at_rest, between}
use Rattle.tests_exact.proofs.Beginning.{start, flush_done, opened, flushes}

-- no fault is allowed
abbrev pub strict : Policy
strict = record default_policy { max_faults = 0 }

-- what comes after the flush
abbrev later : List Event
later = event.Arrive client 100 close.call ∷ event.Arrive client 100 sync.call ∷ event.Step 1 ∷ event.Deliver 0 ∷ []

-- the schedule
abbrev pub events : List Event
events = event.Flush ∷ later

-- 0 to 4, by this policy
abbrev pub flushed : Moment
flushed = flush_done strict later

-- 5: a client's close waits
abbrev pub close_waits : Moment
close_waits = record flushed { run = nothing_after (event.Arrive client 100 close.call) flushed.run }

-- 6: the server answers it
abbrev pub close_begun : Moment
close_begun = record close_waits { run = record (close_waits.run) { queue = [] }; doing = Answering close }

-- within it a sync arrives, and waits
abbrev pub sync_arrived : RunState
sync_arrived = nothing_after (event.Arrive client 100 sync.call) close_begun.run

-- the error, which was sent at the event with number 3
abbrev pub answered : Sent
answered = record { reply = error_of 1; place = 3 }

-- driver 1 fails the write, and answers it
abbrev pub failed : RunState
failed =
    let d : Disks = record { media = disk old_0 old_1 1; current = slot failing; older = []; sent = answered ∷ [] } in
    disks_after (event.Step 1) d sync_arrived

-- 7: that is delivered, and a complaint is due
abbrev pub error_taken : Moment
error_taken = at_link (Received (incoming.Reply (error_of 1)))
    (noting (entry.Received (incoming.Reply (error_of 1))) (nothing_after (event.Deliver 0) failed)) close_begun

-- 8: the server complains; the device is given up, which it is to be told
abbrev pub complaint_made : Moment
complaint_made = at_link (Complained (driver 1)) (complained (driver 1) error_taken.run) error_taken

-- 9: it answers the call
abbrev pub close_done : Moment
close_done = record complaint_made { run = noting (entry.Took client 100 close.call reply.Done) complaint_made.run; doing = Resting }

-- 10: it is told that the device was given up
abbrev pub told : Moment
told = hearing incoming.GaveUp (paid close_done.run) close_done

-- 11: it rests
abbrev pub told_heard : Moment
told_heard = record told { doing = Resting }

-- 12: it answers the sync
abbrev pub sync_begun : Moment
sync_begun = record told_heard { run = record (told_heard.run) { queue = [] }; doing = Answering sync }

-- 13: by EIO
abbrev pub sync_failed : Moment
sync_failed = record sync_begun { run = noting (entry.Took client 100 sync.call (reply.Refused EIO)) sync_begun.run; doing = Resting }

step_5 : Step area flushed close_waits
step_5 = BringsNone _ (between refl refl refl refl) refl
    (runs_event (event.Arrive client 100 close.call) _ refl refl refl refl (refl, refl))

step_6 : Step area close_waits close_begun
step_6 = HandsCall close _ (between refl refl refl refl) refl (record { first = refl; after = refl })

arrives : RunsEvent close_begun.run None sync_arrived
arrives = runs_event (event.Arrive client 100 sync.call) _ refl refl refl refl (refl, refl)

fails : RunsEvent sync_arrived None failed
fails = runs_event (event.Step 1) _ refl refl refl refl (record {
  step = Some (Done error);
  disks = _;
  steps = CurrentSteps (Done error) (slot failing) (disk old_0 old_1 1) refl refl (fails_write 1 (disk old_0 old_1 1) []);
  after = (refl, refl);
})

delivers : RunsEvent failed (Some (incoming.Reply (error_of 1))) (nothing_after (event.Deliver 0) failed)
delivers = runs_event (event.Deliver 0) _ refl refl refl refl (refl, refl)

step_7 : Step area close_begun error_taken
step_7 = Takes (incoming.Reply (error_of 1)) close _ refl (record { at_rest = at_rest refl refl; live = refl; needed = refl })
    (link.Takes (incoming.Reply (error_of 1)) _
    (Goes _ _ (Some (incoming.Reply (error_of 1))) (Goes _ _ None (Goes _ _ None Stays arrives) fails) delivers))

step_8 : Step area error_taken complaint_made
step_8 = Tells (Complained (driver 1)) _ refl refl refl (link.Complains (driver 1))

step_9 : Step area complaint_made close_done
step_9 = Replies close reply.Done refl refl (at_rest refl refl)

step_10 : Step area close_done told
step_10 = Pays (between refl refl refl refl) refl refl

step_11 : Step area told told_heard
step_11 = Settles incoming.GaveUp refl (at_rest refl refl)

step_12 : Step area told_heard sync_begun
step_12 = HandsCall sync _ (between refl refl refl refl) refl (record { first = refl; after = refl })

step_13 : Step area sync_begun sync_failed
step_13 = Replies sync (reply.Refused EIO) refl refl (at_rest refl refl)

-- the row
row : Runs area (start strict events) sync_failed
row = flushes strict later ▸ step_5 ▸ step_6 ▸ step_7 ▸ step_8 ▸ step_9 ▸ step_10 ▸ step_11 ▸ step_12 ▸ step_13

-- what is read off: nothing was written
abbrev pub transcript : Transcript
transcript = record {
  marks = Took client 100 sync.call (answer.refused EIO) ∷ GaveUp ∷ Took client 100 close.call answer.done ∷ Fault (driver 1) Complaint
      ∷ Answered (error_of 1) ∷ Issued write_both (driver 1) ∷ Flush ∷ Started (driver 1) ∷ [];
  sent = answered ∷ [];
  drivers = failing ∷ [];
  frames = λ block. None;
  unanswered = 0;
  image = concat (sectors_with old_0 old_1);
}

-- the run is the schedule's, exactly
pub given_up_is_exact : IsExact sizes image (setup strict) supply events transcript
given_up_is_exact = record {
  first = (start strict events).run;
  opened = opened strict events;
  last = sync_failed;
  steps = row;
  over = record { spent = record { events = lit≤ tt; paid = refl }; calm = refl; ends = inl (refl, refl) };
  read_off = record { marks = refl; sent = refl; drivers = refl; image = refl; unanswered = refl };
}
