-- A run whose first three events end within a call: there the whole run goes on between two of the events of one take.
use Rattle.std.specs.Prelude.{List, [], ◌∷◌, Some, None, refl, take}
use Rattle.std.specs.List.{concat}
use Rattle.std.proofs.Common.{lit≤, inl, inr}
use Rattle.message.specs.declared.Incoming.TheVariants as incoming
use Rattle.bdev.specs.declared.Step.TheVariants.{Working, Done}
use Rattle.tree.specs.declared.Reply.TheVariants as reply
use Rattle.tree.specs.Answers as tree_answer
use Rattle.reincarnate.specs.Policy.{default_policy}
use Rattle.reincarnate.specs.Watch.{driver}
use Rattle.records.specs.Marks.{Answered, Flush, Issued, Started, Took}
use Rattle.records.specs.Told.{Received}
use Rattle.schedule.specs.declared.Sent.{Sent}
use Rattle.schedule.specs.declared.Event.{Event}
use Rattle.schedule.specs.declared.Event.TheVariants as event
use Rattle.schedule.specs.declared.log.LogEntry.TheVariants as entry
use Rattle.schedule.specs.Headline.{Transcript}
use Rattle.simulated_link.specs.Disks.{Disks, CurrentSteps}
use Rattle.simulated_link.specs.StateView as link
use Rattle.simulated_link.specs.StateView.{RunState, RunsEvent, noting, ended, Stays, Goes, IsRunOut, TakesEnd}
use Rattle.simulated_link.specs.Moments.{Moment, Answering, Resting, at_link, Step, Takes, BringsNone, HandsCall, Replies, Runs, Starts}
use Rattle.world.specs.Exact.{IsExact}
use Rattle.world.specs.FirstEvents.{Comes, OnceEnded, BeginsWith}
use Rattle.tests_exact.proofs.Small.{area, sizes, sectors_with, new_0, new_1, old_0, old_1, image, disk, setup, supply, write_both}
use Rattle.tests_exact.proofs.Small.{client, sync}
use Rattle.tests_exact.proofs.Drivers.{slot, at_second, done, answer, reply_of, begins_write, ends_write}
use Rattle.tests_exact.proofs.Making.{◌▸◌, nothing_after, disks_after, runs_event, at_rest, between}
use Rattle.tests_exact.proofs.Beginning.{start, flush_done, opened, flushes}

-- the call that arrives, and what comes after it
abbrev arrives : List Event → List Event
arrives later = event.Arrive client 100 sync.call ∷ later

-- 0 to 4, and then these events
abbrev flushed : List Event → Moment
flushed later = flush_done default_policy (arrives later)

-- 5: a client's sync waits
abbrev sync_waits : List Event → Moment
sync_waits later = record (flushed later) { run = nothing_after (event.Arrive client 100 sync.call) (flushed later).run }

-- 6: the server answers it
abbrev sync_begun : List Event → Moment
sync_begun later = record (sync_waits later) { run = record ((sync_waits later).run) { queue = [] }; doing = Answering sync }

-- within it the driver writes the first sector
abbrev first_written : List Event → RunState
first_written later =
    let d : Disks = record { media = disk new_0 old_1 1; current = slot at_second; older = []; sent = [] } in
    disks_after (event.Step 1) d (sync_begun (event.Step 1 ∷ later)).run

step_5 : (later : List Event) → Step area (flushed later) (sync_waits later)
step_5 later =
    BringsNone _ (between refl refl refl refl) refl (runs_event (event.Arrive client 100 sync.call) _ refl refl refl refl (refl, refl))

step_6 : (later : List Event) → Step area (sync_waits later) (sync_begun later)
step_6 later = HandsCall sync _ (between refl refl refl refl) refl (record { first = refl; after = refl })

writes_first : (later : List Event) → RunsEvent (sync_begun (event.Step 1 ∷ later)).run None (first_written later)
writes_first later = runs_event (event.Step 1) _ refl refl refl refl (record {
  step = Some Working;
  disks = _;
  steps = CurrentSteps Working (slot at_second) (disk new_0 old_1 1) refl refl (begins_write 1 old_0 old_1 refl refl);
  after = (refl, refl);
})

-- the row so far
until_sync : (later : List Event) → Runs area (start default_policy (event.Flush ∷ arrives later)) (sync_begun later)
until_sync later = flushes default_policy (arrives later) ▸ step_5 later ▸ step_6 later

-- ---- the first three events: after the first sector there is no message

abbrev three : List Event
three = event.Flush ∷ arrives (event.Step 1 ∷ [])

abbrev cut : Moment
cut = at_link (Received incoming.End) (ended (first_written [])) (sync_begun (event.Step 1 ∷ []))

step_cut : Step area (sync_begun (event.Step 1 ∷ [])) cut
step_cut = Takes incoming.End sync _ refl (record { at_rest = at_rest refl refl; live = refl; needed = refl })
    (TakesEnd _ refl (IsRunOut _ (Goes _ _ None Stays (writes_first [])) (record { events = lit≤ tt; paid = refl })))

abbrev cut_transcript : Transcript
cut_transcript = record {
  marks = Issued write_both (driver 1) ∷ Flush ∷ Started (driver 1) ∷ [];
  sent = [];
  drivers = at_second ∷ [];
  frames = λ block. None;
  unanswered = 1;
  image = concat (sectors_with new_0 old_1);
}

cut_is_exact : IsExact sizes image (setup default_policy) supply three cut_transcript
cut_is_exact = record {
  first = (start default_policy three).run;
  opened = opened default_policy three;
  last = cut;
  steps = until_sync (event.Step 1 ∷ []) ▸ step_cut;
  over = record {
    spent = record { events = lit≤ tt; paid = refl };
    calm = refl;
    ends = inr (refl, record { call = sync; answers = refl; needed = refl; not_given_up = refl });
  };
  read_off = record { marks = refl; sent = refl; drivers = refl; image = refl; unanswered = refl };
}

-- ---- the whole run: the driver writes the second sector, its answer is delivered, and the sync is done

abbrev rest : List Event
rest = event.Step 1 ∷ event.Deliver 0 ∷ []

abbrev five : List Event
five = event.Flush ∷ arrives (event.Step 1 ∷ rest)

-- the answer, which was sent at the event with number 3
abbrev answered : Sent
answered = record { reply = reply_of 1; place = 3 }

abbrev both_written : RunState
both_written =
    let d : Disks = record { media = disk new_0 new_1 1; current = slot done; older = []; sent = answered ∷ [] } in
    disks_after (event.Step 1) d (first_written rest)

writes_second : RunsEvent (first_written rest) None both_written
writes_second = runs_event (event.Step 1) _ refl refl refl refl (record {
  step = Some (Done answer);
  disks = _;
  steps = CurrentSteps (Done answer) (slot done) (disk new_0 new_1 1) refl refl (ends_write 1 new_0 old_1 refl refl);
  after = (refl, refl);
})

delivers : RunsEvent both_written (Some (incoming.Reply (reply_of 1))) (nothing_after (event.Deliver 0) both_written)
delivers = runs_event (event.Deliver 0) _ refl refl refl refl (refl, refl)

abbrev answer_taken : Moment
answer_taken = at_link (Received (incoming.Reply (reply_of 1)))
    (noting (entry.Received (incoming.Reply (reply_of 1))) (nothing_after (event.Deliver 0) both_written))
    (sync_begun (event.Step 1 ∷ rest))

abbrev sync_done : Moment
sync_done = record answer_taken { run = noting (entry.Took client 100 sync.call reply.Done) answer_taken.run; doing = Resting }

-- within the take, between its first event and its second
abbrev between_events : Moment
between_events = record (sync_begun (event.Step 1 ∷ rest)) { run = first_written rest }

step_7 : Step area (sync_begun (event.Step 1 ∷ rest)) answer_taken
step_7 = Takes (incoming.Reply (reply_of 1)) sync _ refl (record { at_rest = at_rest refl refl; live = refl; needed = refl })
    (link.Takes (incoming.Reply (reply_of 1)) _ (Goes _ _ (Some (incoming.Reply (reply_of 1)))
    (Goes _ _ None (Goes _ _ None Stays (writes_first rest)) writes_second) delivers))

-- what is left of it
step_7_on : Step area between_events answer_taken
step_7_on = Takes (incoming.Reply (reply_of 1)) sync _ refl (record { at_rest = at_rest refl refl; live = refl; needed = refl })
    (link.Takes (incoming.Reply (reply_of 1)) _ (Goes _ _ (Some (incoming.Reply (reply_of 1)))
    (Goes _ _ None Stays writes_second) delivers))

step_8 : Step area answer_taken sync_done
step_8 = Replies sync reply.Done refl refl (at_rest refl refl)

abbrev transcript : Transcript
transcript = record {
  marks = Took client 100 sync.call tree_answer.done ∷ Answered (reply_of 1) ∷ Issued write_both (driver 1) ∷ Flush
      ∷ Started (driver 1) ∷ [];
  sent = answered ∷ [];
  drivers = done ∷ [];
  frames = λ block. None;
  unanswered = 0;
  image = concat (sectors_with new_0 new_1);
}

whole_is_exact : IsExact sizes image (setup default_policy) supply five transcript
whole_is_exact = record {
  first = (start default_policy five).run;
  opened = opened default_policy five;
  last = sync_done;
  steps = until_sync (event.Step 1 ∷ rest) ▸ step_7 ▸ step_8;
  over = record { spent = record { events = lit≤ tt; paid = refl }; calm = refl; ends = inl (refl, refl) };
  read_off = record { marks = refl; sent = refl; drivers = refl; image = refl; unanswered = refl };
}

-- it begins with the run of its first three events
cut_begins : BeginsWith sizes image (setup default_policy) supply five transcript whole_is_exact 3
unfolding cut_is_exact whole_is_exact
cut_begins = record {
  start = cut_transcript;
  exact = cut_is_exact;
  moment = between_events;
  comes = Comes (sync_begun (event.Step 1 ∷ rest)) (first_written rest) (until_sync (event.Step 1 ∷ rest))
      (Goes _ _ None Stays (writes_first rest));
  ends = OnceEnded;
  goes_on = Starts ▸ step_7_on ▸ step_8;
  later = take 2 sync_done.run.scene.noted.groups;
  groups = refl;
  marks = record { later = take 2 transcript.marks; is = refl };
  later_sent = answered ∷ [];
  sent = refl;
  places = (lit≤ tt, tt);
}
