-- What the rules of a run leave open: other runs of the first row's events, which are exact too. The headline excludes the second and the
-- third. And what a driver that hangs may do.
use Rattle.std.specs.Prelude.{◌≡◌, List, [], ◌∷◌, Some, None, false, refl}
use Rattle.std.specs.List.{concat}
use Rattle.std.proofs.Common.{lit≤, inl}
use Rattle.message.specs.declared.BlockRequest.{BlockRequest}
use Rattle.message.specs.declared.Incoming.TheVariants as incoming
use Rattle.bdev.specs.declared.Step.TheVariants.{Done}
use Rattle.tree.specs.declared.Reply.{Reply}
use Rattle.tree.specs.declared.Reply.TheVariants as reply
use Rattle.tree.specs.Answers.{answer_of}
use Rattle.tree.specs.Answers as answer
use Rattle.reincarnate.specs.declared.policy.Policy.{Policy}
use Rattle.reincarnate.specs.Policy.{default_policy}
use Rattle.reincarnate.specs.Watch.{driver}
use Rattle.records.specs.declared.marks.Cause.TheVariants.{Exit}
use Rattle.records.specs.Marks.{Started, Answered, Flush, Took, Issued, Fault}
use Rattle.records.specs.View.{Frames}
use Rattle.schedule.specs.declared.Sent.{Sent}
use Rattle.schedule.specs.declared.Event.{Event}
use Rattle.schedule.specs.declared.Event.TheVariants as event
use Rattle.schedule.specs.declared.log.LogEntry.TheVariants as entry
use Rattle.simulated_link.specs.Disks.{Disks, SlotSteps, hung_slot, CurrentSteps, CurrentHangs}
use Rattle.simulated_link.specs.StateView.{noting}
use Rattle.simulated_link.specs.Moments.{Moment, Resting, hearing, Step, Begins, Settles, Brings, BringsNone, Replies}
use Rattle.world.specs.Exact.{IsExact}
use Rattle.tests_exact.proofs.Small.{area, sizes, sectors_with, old_1, new_0, new_1, image, disk, setup, supply, write_both, client, sync}
use Rattle.tests_exact.proofs.Drivers.{slot, at_second, done, answer, reply_of, ends_write}
use Rattle.tests_exact.proofs.Making.{◌▸◌, nothing_after, disks_after, runs_event, at_rest, between}
use Rattle.tests_exact.proofs.Beginning.{start, flush_heard, half_written, opened, writes_half}
use Rattle.tests_exact.proofs.DeathRow.{events, sync_begun, answer_taken, until_sync, until_answer, transcript, death_is_exact}

-- What the server's frames hold is read off no moment.
pub any_frames : (frames : Frames) → IsExact sizes image (setup default_policy) supply events (record transcript { frames = frames })
any_frames frames = record {
  first = death_is_exact.first;
  opened = death_is_exact.opened;
  last = death_is_exact.last;
  steps = death_is_exact.steps;
  over = death_is_exact.over;
  read_off = record {
    marks = death_is_exact.read_off.marks;
    sent = death_is_exact.read_off.sent;
    drivers = death_is_exact.read_off.drivers;
    image = death_is_exact.read_off.image;
    unanswered = death_is_exact.read_off.unanswered;
  };
}

-- the sync has this reply
abbrev replied : Reply → Moment
replied r = record answer_taken { run = noting (entry.Took client 100 sync.call r) answer_taken.run; doing = Resting }

-- Any reply may be given to a call.
pub any_reply : (r : Reply) → IsExact sizes image (setup default_policy) supply events (record transcript {
  marks = Took client 100 sync.call (answer_of r) ∷ Answered (reply_of 2) ∷ Issued write_both (driver 2) ∷ Started (driver 2)
      ∷ Fault (driver 1) Exit ∷ Issued write_both (driver 1) ∷ Flush ∷ Started (driver 1) ∷ [];
})
any_reply r = record {
  first = (start default_policy events).run;
  opened = opened default_policy events;
  last = replied r;
  steps = until_answer ▸ Replies sync r refl refl (at_rest refl refl);
  over = record { spent = record { events = lit≤ tt; paid = refl }; calm = refl; ends = inl (refl, refl) };
  read_off = record { marks = refl; sent = refl; drivers = refl; image = refl; unanswered = refl };
}

-- the sync is done while its write is pending
abbrev too_soon : Moment
too_soon = record sync_begun { run = noting (entry.Took client 100 sync.call reply.Done) sync_begun.run; doing = Resting }

-- the answer comes afterwards
abbrev heard_late : Moment
heard_late = hearing (incoming.Reply (reply_of 2)) (nothing_after (event.Deliver 0) too_soon.run) too_soon

-- A sync may be answered before what it waits for.
pub synced_too_soon : IsExact sizes image (setup default_policy) supply events (record transcript {
  marks = Answered (reply_of 2) ∷ Took client 100 sync.call answer.done ∷ Issued write_both (driver 2) ∷ Started (driver 2)
      ∷ Fault (driver 1) Exit ∷ Issued write_both (driver 1) ∷ Flush ∷ Started (driver 1) ∷ [];
})
synced_too_soon = record {
  first = (start default_policy events).run;
  opened = opened default_policy events;
  last = record heard_late { doing = Resting };
  steps = until_sync ▸ answered ▸ heard ▸ rests;
  over = record { spent = record { events = lit≤ tt; paid = refl }; calm = refl; ends = inl (refl, refl) };
  read_off = record { marks = refl; sent = refl; drivers = refl; image = refl; unanswered = refl };
} where
  answered : Step area sync_begun too_soon
  answered = Replies sync reply.Done refl refl (at_rest refl refl)

  heard : Step area too_soon heard_late
  heard = Brings (incoming.Reply (reply_of 2)) _ (between refl refl refl refl) refl
      (runs_event (event.Deliver 0) _ refl refl refl refl (refl, refl))

  rests : Step area heard_late (record heard_late { doing = Resting })
  rests = Settles (incoming.Reply (reply_of 2)) refl (at_rest refl refl)

-- At a flush any request with the next id may become pending, whatever it writes and wherever.
pub any_write : (policy : Policy) (more : List Event) (r : BlockRequest) → r.id ≡ 1
    → Step area (flush_heard policy more) (record (flush_heard policy more) {
      outbox = record { never_issued = r ∷ []; unposted = r ∷ []; stopped = false; complaint = None };
    })
any_write policy more r next = Begins r refl (record { next = next; room = lit≤ tt })

-- Within any call too, even on sectors of a write that is open.
pub any_write_in_a_call : (r : BlockRequest) → r.id ≡ 2
    → Step area sync_begun (record sync_begun {
      outbox = record { never_issued = r ∷ []; unposted = r ∷ []; stopped = false; complaint = None };
    })
any_write_in_a_call r next = Begins r refl (record { next = next; room = lit≤ tt })

-- driver 1 hangs after the first sector, and yet the schedule lets it step
abbrev hangs : List Event
hangs = event.Hang 1 ∷ event.Step 1 ∷ event.Deliver 0 ∷ []

abbrev half : Moment
half = half_written default_policy hangs

-- it hangs
abbrev hung : Moment
hung =
    let d : Disks = record { media = disk new_0 old_1 1; current = hung_slot (slot at_second); older = []; sent = [] } in
    record half { run = disks_after (event.Hang 1) d half.run }

-- its answer, which was sent at the event with number 3
abbrev answered_hung : Sent
answered_hung = record { reply = reply_of 1; place = 3 }

-- it wrote the second sector, and answered
abbrev worked : Moment
worked =
    let d : Disks = record { media = disk new_0 new_1 1; current = hung_slot (slot done); older = []; sent = answered_hung ∷ [] } in
    record hung { run = disks_after (event.Step 1) d hung.run }

-- that is delivered
abbrev heard_hung : Moment
heard_hung = hearing (incoming.Reply (reply_of 1)) (nothing_after (event.Deliver 0) worked.run) worked

-- A driver that hangs beats no more, but it steps where the schedule says so: it writes, answers, and its answer counts.
pub hung_driver_works : IsExact sizes image (setup default_policy) supply (event.Flush ∷ event.Step 1 ∷ hangs) (record {
  marks = Answered (reply_of 1) ∷ Issued write_both (driver 1) ∷ Flush ∷ Started (driver 1) ∷ [];
  sent = answered_hung ∷ [];
  drivers = done ∷ [];
  frames = λ block. None;
  unanswered = 0;
  image = concat (sectors_with new_0 new_1);
})
hung_driver_works = record {
  first = (start default_policy (event.Flush ∷ event.Step 1 ∷ hangs)).run;
  opened = opened default_policy (event.Flush ∷ event.Step 1 ∷ hangs);
  last = record heard_hung { doing = Resting };
  steps = writes_half default_policy hangs ▸ hang ▸ work ▸ hear ▸ rest;
  over = record { spent = record { events = lit≤ tt; paid = refl }; calm = refl; ends = inl (refl, refl) };
  read_off = record { marks = refl; sent = refl; drivers = refl; image = refl; unanswered = refl };
} where
  hang : Step area half hung
  hang = BringsNone _ (between refl refl refl refl) refl
      (runs_event (event.Hang 1) _ refl refl refl refl (record { tells = refl; disks = _; does = CurrentHangs refl; after = refl }))

  ends : SlotSteps 1 (hung_slot (slot at_second)) (disk new_0 old_1 1) (Done answer) (hung_slot (slot done)) (disk new_0 new_1 1)
  ends = let e = ends_write 1 new_0 old_1 refl refl in
      record { handed = e.handed; hands = e.hands; driver = e.driver; steps = e.steps; after = e.after; lives = refl; hangs = refl }

  work : Step area hung worked
  work = BringsNone _ (between refl refl refl refl) refl (runs_event (event.Step 1) _ refl refl refl refl (record {
    step = Some (Done answer);
    disks = _;
    steps = CurrentSteps (Done answer) (hung_slot (slot done)) (disk new_0 new_1 1) refl refl ends;
    after = (refl, refl);
  }))

  hear : Step area worked heard_hung
  hear = Brings (incoming.Reply (reply_of 1)) _ (between refl refl refl refl) refl
      (runs_event (event.Deliver 0) _ refl refl refl refl (refl, refl))

  rest : Step area heard_hung (record heard_hung { doing = Resting })
  rest = Settles (incoming.Reply (reply_of 1)) refl (at_rest refl refl)
