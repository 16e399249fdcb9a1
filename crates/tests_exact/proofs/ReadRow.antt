-- The run of examples/death.txt, which README shows, from its first moment to its last: over any image as long as examples/v.img, a
-- client's stat comes, and the server posts a read of two sectors. Driver 1 reads one of them, and dies. A tick later driver 2 is started;
-- the read is posted to it under its old id; it reads both, and answers; that is delivered, and the stat is answered.
use Rattle.std.specs.Prelude.{◌≡◌, ℕ, List, [], ◌∷◌, length, codes, Some, None, true, false, refl}
use Rattle.std.proofs.Common.{lit≤, inl, sym}
use Rattle.message.specs.declared.Incoming.TheVariants as incoming
use Rattle.bdev.specs.declared.Step.TheVariants.{Working, Done}
use Rattle.bdev.specs.DriverState.{DriverState}
use Rattle.tree.specs.declared.Attributes.{Attributes}
use Rattle.tree.specs.declared.Call.TheVariants.{Stat}
use Rattle.tree.specs.declared.PathFrom.{PathFrom}
use Rattle.tree.specs.declared.Start.TheVariants.{Root}
use Rattle.tree.specs.declared.Reply.TheVariants as reply
use Rattle.tree.specs.Answers as tree_answer
use Rattle.reincarnate.specs.declared.policy.Setup.{Setup}
use Rattle.reincarnate.specs.Policy.{default_policy}
use Rattle.reincarnate.specs.Watch as restart
use Rattle.reincarnate.specs.Watch.{Running, Waiting, driver, new_watch}
use Rattle.records.specs.declared.marks.Cause.TheVariants.{Exit}
use Rattle.records.specs.Marks.{Started, Answered, Took, Issued, Fault}
use Rattle.records.specs.Told.{Posted, Received}
use Rattle.schedule.specs.declared.arrived.Arrived.{Arrived}
use Rattle.schedule.specs.declared.Sent.{Sent}
use Rattle.schedule.specs.declared.Event.{Event}
use Rattle.schedule.specs.declared.Event.TheVariants as event
use Rattle.schedule.specs.declared.log.LogEntry.TheVariants as entry
use Rattle.schedule.specs.Headline.{Transcript}
use Rattle.schedule.specs.Noted.{with_entry}
use Rattle.simulated_link.specs.declared.events.ruling.Ruling.TheVariants as ruling
use Rattle.simulated_link.specs.Disks.{Disks, Slot, lined_up, dead_slot, CurrentSteps, CurrentDies}
use Rattle.simulated_link.specs.RunState.{begun}
use Rattle.simulated_link.specs.Scene.{Scene}
use Rattle.simulated_link.specs.StateView as link
use Rattle.simulated_link.specs.StateView.{RunState, RunsEvent, IsOpened, noting, posted, first_noted, Stays, Goes}
use Rattle.simulated_link.specs.Moments.{Moment, Resting, Answering, at_link, Step, Begins, Takes, BringsNone, HandsCall, Replies, Runs}
use Rattle.simulated_link.specs.Moments.{Starts}
use Rattle.world.specs.Starts.{at_first}
use Rattle.world.specs.Exact.{IsExact, media_with}
use Rattle.tests_exact.proofs.Small.{client}
use Rattle.tests_exact.proofs.Drivers.{slot}
use Rattle.tests_exact.proofs.Reading.{area, sizes, media_of, ready, five, read, read_fits, has_one, done, answer, reply_of, begins_read, ends_read}
use Rattle.tests_exact.proofs.Reading.{sectors_joined}
use Rattle.tests_exact.proofs.Making.{◌▸◌, after_event, nothing_after, disks_after, runs_event, at_rest, between, posts}

-- the volume is all of the image, and there are 64 frames
abbrev pub setup : Setup
setup = record { minor = 0; frames = 64; policy = default_policy }

-- six drivers are handed in
abbrev pub supply : List DriverState
supply = ready ∷ five

-- stat /
abbrev slash : PathFrom
slash = record { start = Root; bytes = record { ref_ptr = (0, 0); now = codes "/" } }

abbrev pub stat : Arrived
stat = record { who = client; now = 100; call = Stat slash }

-- inode 1 mode 0040755 links 2 uid 0 gid 0 size 128 times 50 50 50
abbrev pub root : Attributes
root = record { inode = 1; mode = 16877; links = 2; uid = 0; gid = 0; size = 128; atime = 50; mtime = 50; ctime = 50 }

-- the schedule, line by line
abbrev pub events : List Event
events =
    event.Arrive client 100 stat.call ∷ event.Step 1 ∷ event.Die 1 None ∷ event.Tick ∷ event.Step 2 ∷ event.Step 2 ∷ event.Deliver 0 ∷ []

-- 0: driver 1 runs, as generation 1, and no event was run
abbrev pub start : List ℕ → Moment
start image = at_first (record {
  scene = record {
    disks = record { media = media_of image 1; current = slot ready; older = []; sent = [] };
    supply = five;
    policy = default_policy;
    watch = record { spares = 5; generation = 1; fault = None; phase = Running (0, 0) 0 };
    tick = 0;
    pulse = (0, 0);
    noted = first_noted;
  };
  events = events;
  next = 0;
  queue = [];
  owed = false;
  told = false;
  over = false;
  starved = false;
})

-- 1: the stat waits
abbrev pub stat_waits : List ℕ → Moment
stat_waits image = let m = start image in record m { run = nothing_after (event.Arrive client 100 stat.call) m.run }

-- 2: the server answers it
abbrev pub stat_begun : List ℕ → Moment
stat_begun image = let m = stat_waits image in record m { run = record (m.run) { queue = [] }; doing = Answering stat }

-- 3: a read became pending
abbrev pub read_begun : List ℕ → Moment
read_begun image = record (stat_begun image) {
  outbox = record { never_issued = read ∷ []; unposted = read ∷ []; stopped = false; complaint = None };
}

-- 4: it was posted to driver 1
abbrev pub read_posted : List ℕ → Moment
read_posted image =
    let m = read_begun image in
    at_link (Posted (driver 1) read true) (posted (driver 1) read true (lined_up read m.run.scene.disks) m.run) m

-- driver 1 reads a sector
abbrev pub half : List ℕ → RunState
half image =
    let d : Disks = record { media = media_of image 1; current = slot (has_one image); older = []; sent = [] } in
    disks_after (event.Step 1) d (read_posted image).run

-- it dies, and tears nothing: an exit is noted, and the next start comes at tick 1
abbrev pub death : List ℕ → Scene
death image =
    let b = begun (event.Die 1 None) (half image).scene in
    record b {
      disks = record { media = media_of image 1; current = dead_slot (slot (has_one image)); older = []; sent = [] };
      watch = record { spares = 5; generation = 1; fault = Some (record { number = 1; tick = 0 }); phase = Waiting 1 };
      noted = with_entry (entry.Faulted (driver 1) Exit) b.noted;
    }

abbrev pub dead : List ℕ → RunState
dead image = after_event (event.Die 1 None) (death image) (half image)

-- driver 2 is started, and the media adopt generation 2
abbrev pub restart_at_1 : List ℕ → Scene
restart_at_1 image = record (begun event.Tick (dead image).scene) {
  disks = record { media = media_of image 2; current = slot ready; older = dead_slot (slot (has_one image)) ∷ []; sent = [] };
  supply = ready ∷ ready ∷ ready ∷ ready ∷ [];
  watch = record { spares = 4; generation = 2; fault = Some (record { number = 1; tick = 0 }); phase = Running (0, 0) 0 };
  tick = 1;
}

-- 5: the server took that, and is to post the read again
abbrev pub restarted : List ℕ → Moment
restarted image =
    let run : RunState = after_event event.Tick (restart_at_1 image) (dead image) in
    at_link (Received (incoming.Started (driver 2))) (noting (entry.Received (incoming.Started (driver 2))) run) (read_posted image)

-- 6: it posted it to driver 2, under its old id
abbrev pub posted_again : List ℕ → Moment
posted_again image =
    let m = restarted image in
    at_link (Posted (driver 2) read true) (posted (driver 2) read true (lined_up read m.run.scene.disks) m.run) m

-- driver 2 reads the first sector
abbrev pub half_again : List ℕ → RunState
half_again image =
    let older : List Slot = dead_slot (slot (has_one image)) ∷ [] in
    let d : Disks = record { media = media_of image 2; current = slot (has_one image); older = older; sent = [] } in
    disks_after (event.Step 2) d (posted_again image).run

-- its answer, which was sent at the event with number 5
abbrev pub answered : List ℕ → Sent
answered image = record { reply = reply_of image 2; place = 5 }

-- it reads the second, and answers
abbrev pub whole : List ℕ → RunState
whole image =
    let older : List Slot = dead_slot (slot (has_one image)) ∷ [] in
    let d : Disks = record { media = media_of image 2; current = slot done; older = older; sent = answered image ∷ [] } in
    disks_after (event.Step 2) d (half_again image)

-- 7: that was delivered, and the server took it
abbrev pub answer_taken : List ℕ → Moment
answer_taken image =
    at_link (Received (incoming.Reply (reply_of image 2)))
    (noting (entry.Received (incoming.Reply (reply_of image 2))) (nothing_after (event.Deliver 0) (whole image))) (posted_again image)

-- 8: the stat is answered
abbrev pub stat_done : List ℕ → Moment
stat_done image =
    let m = answer_taken image in
    record m { run = noting (entry.Took client 100 stat.call (reply.Inode root)) m.run; doing = Resting }

pub opened : (image : List ℕ) → IsOpened (media_with image) default_policy (new_watch 6) supply events (start image).run
opened image = record {
  scene = record { first = ready; rest = five; spare = refl; is = refl };
  events_are = refl;
  next = refl;
  queue = refl;
  owed = refl;
  told = refl;
  over = refl;
  starved = refl;
}

step_1 : (image : List ℕ) → Step area (start image) (stat_waits image)
step_1 image = BringsNone _ (between refl refl refl refl) refl
    (runs_event (event.Arrive client 100 stat.call) _ refl refl refl refl (refl, refl))

step_2 : (image : List ℕ) → Step area (stat_waits image) (stat_begun image)
step_2 image = HandsCall stat _ (between refl refl refl refl) refl (record { first = refl; after = refl })

step_3 : (image : List ℕ) → Step area (stat_begun image) (read_begun image)
step_3 image = Begins read refl (record { next = refl; room = lit≤ tt })

step_4 : (image : List ℕ) → Step area (read_begun image) (read_posted image)
step_4 image = posts (driver 1) read refl refl refl refl refl read_fits refl refl (lit≤ tt)

reads_one : (image : List ℕ) → length image ≡ 65536 → RunsEvent (read_posted image).run None (half image)
reads_one image long = runs_event (event.Step 1) _ refl refl refl refl (record {
  step = Some Working;
  disks = _;
  steps = CurrentSteps Working (slot (has_one image)) (media_of image 1) refl refl (begins_read image 1 long refl);
  after = (refl, refl);
})

dies : (image : List ℕ) → RunsEvent (half image) None (dead image)
dies image = runs_event (event.Die 1 None) (death image) refl refl refl refl (record {
  died = true;
  disks = _;
  dies = CurrentDies refl refl;
  after = record { ruling = ruling.Fault; is = refl; tells = refl; after = refl };
})

ticks : (image : List ℕ)
    → RunsEvent (dead image) (Some (incoming.Started (driver 2))) (after_event event.Tick (restart_at_1 image) (dead image))
ticks image = runs_event event.Tick (restart_at_1 image) refl refl refl refl (record {
  action = restart.Start (driver 2);
  is = refl;
  spare = λ e h. (ready, ready ∷ ready ∷ ready ∷ ready ∷ [], refl);
  tells = refl;
  after = refl;
})

step_5 : (image : List ℕ) → length image ≡ 65536 → Step area (read_posted image) (restarted image)
step_5 image long = Takes (incoming.Started (driver 2)) stat _ refl (record { at_rest = at_rest refl refl; live = refl; needed = refl })
    (link.Takes (incoming.Started (driver 2)) _
    (Goes _ _ (Some (incoming.Started (driver 2))) (Goes _ _ None (Goes _ _ None Stays (reads_one image long)) (dies image)) (ticks image)))

step_6 : (image : List ℕ) → Step area (restarted image) (posted_again image)
step_6 image = posts (driver 2) read refl refl refl refl refl read_fits refl refl (lit≤ tt)

reads_again : (image : List ℕ) → length image ≡ 65536 → RunsEvent (posted_again image).run None (half_again image)
reads_again image long = runs_event (event.Step 2) _ refl refl refl refl (record {
  step = Some Working;
  disks = _;
  steps = CurrentSteps Working (slot (has_one image)) (media_of image 2) refl refl (begins_read image 2 long refl);
  after = (refl, refl);
})

reads_both : (image : List ℕ) → length image ≡ 65536 → RunsEvent (half_again image) None (whole image)
reads_both image long = runs_event (event.Step 2) _ refl refl refl refl (record {
  step = Some (Done (answer image));
  disks = _;
  steps = CurrentSteps (Done (answer image)) (slot done) (media_of image 2) refl refl (ends_read image 2 long refl);
  after = (refl, refl);
})

delivers : (image : List ℕ)
    → RunsEvent (whole image) (Some (incoming.Reply (reply_of image 2))) (nothing_after (event.Deliver 0) (whole image))
delivers image = runs_event (event.Deliver 0) _ refl refl refl refl (refl, refl)

step_7 : (image : List ℕ) → length image ≡ 65536 → Step area (posted_again image) (answer_taken image)
step_7 image long = Takes (incoming.Reply (reply_of image 2)) stat _ refl
    (record { at_rest = at_rest refl refl; live = refl; needed = refl })
    (link.Takes (incoming.Reply (reply_of image 2)) _
    (Goes _ _ (Some (incoming.Reply (reply_of image 2)))
    (Goes _ _ None (Goes _ _ None Stays (reads_again image long)) (reads_both image long)) (delivers image)))

step_8 : (image : List ℕ) → Step area (answer_taken image) (stat_done image)
step_8 image = Replies stat (reply.Inode root) refl refl (at_rest refl refl)

-- the row
row : (image : List ℕ) → length image ≡ 65536 → Runs area (start image) (stat_done image)
row image long = Starts ▸ step_1 image ▸ step_2 image ▸ step_3 image ▸ step_4 image ▸ step_5 image long ▸ step_6 image ▸ step_7 image long
    ▸ step_8 image

-- what is read off: the record that examples/death.transcript has, no call left, and the image as it was
abbrev pub transcript : List ℕ → Transcript
transcript image = record {
  marks = Took client 100 stat.call (tree_answer.node_is root) ∷ Answered (reply_of image 2) ∷ Issued read (driver 2) ∷ Started (driver 2)
      ∷ Fault (driver 1) Exit ∷ Issued read (driver 1) ∷ Started (driver 1) ∷ [];
  sent = answered image ∷ [];
  drivers = has_one image ∷ done ∷ [];
  frames = λ block. None;
  unanswered = 0;
  image = image;
}

-- the run is the schedule's, exactly
pub read_is_exact : (image : List ℕ) → length image ≡ 65536 → IsExact sizes image setup supply events (transcript image)
read_is_exact image long = record {
  first = (start image).run;
  opened = opened image;
  last = stat_done image;
  steps = row image long;
  over = record { spent = record { events = lit≤ tt; paid = refl }; calm = refl; ends = inl (refl, refl) };
  read_off = record { marks = refl; sent = refl; drivers = refl; image = sym (sectors_joined image long); unanswered = refl };
}
