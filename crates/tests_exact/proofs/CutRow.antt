-- A run whose schedule ends within a call, which has no answer.
use Rattle.std.specs.Prelude.{List, [], ◌∷◌, None, refl}
use Rattle.std.specs.List.{concat}
use Rattle.std.proofs.Common.{lit≤, inr}
use Rattle.message.specs.declared.Incoming.TheVariants as incoming
use Rattle.reincarnate.specs.Policy.{default_policy}
use Rattle.reincarnate.specs.Watch.{driver}
use Rattle.records.specs.Marks.{Started, Flush, Issued}
use Rattle.records.specs.Told.{Received}
use Rattle.schedule.specs.declared.Event.{Event}
use Rattle.schedule.specs.declared.Event.TheVariants as event
use Rattle.schedule.specs.Headline.{Transcript}
use Rattle.simulated_link.specs.StateView.{ended, Stays, IsRunOut, TakesEnd}
use Rattle.simulated_link.specs.Moments.{Moment, Answering, at_link, Step, Takes, BringsNone, HandsCall, Runs}
use Rattle.world.specs.Exact.{IsExact}
use Rattle.tests_exact.proofs.Small.{area, sizes, sectors_with, old_0, old_1, image, setup, idle, supply, write_both, client, sync}
use Rattle.tests_exact.proofs.Making.{◌▸◌, nothing_after, runs_event, at_rest, between}
use Rattle.tests_exact.proofs.Beginning.{start, flush_done, opened, flushes}

-- what comes after the flush
abbrev later : List Event
later = event.Arrive client 100 sync.call ∷ []

-- the schedule
abbrev pub events : List Event
events = event.Flush ∷ later

-- 0 to 4
abbrev pub flushed : Moment
flushed = flush_done default_policy later

-- 5: a client's sync waits
abbrev pub sync_waits : Moment
sync_waits = record flushed { run = nothing_after (event.Arrive client 100 sync.call) flushed.run }

-- 6: the server answers it
abbrev pub sync_begun : Moment
sync_begun = record sync_waits { run = record (sync_waits.run) { queue = [] }; doing = Answering sync }

-- 7: it needs a message, and there is none: the link has ended
abbrev pub cut : Moment
cut = at_link (Received incoming.End) (ended sync_begun.run) sync_begun

step_5 : Step area flushed sync_waits
step_5 = BringsNone _ (between refl refl refl refl) refl (runs_event (event.Arrive client 100 sync.call) _ refl refl refl refl (refl, refl))

step_6 : Step area sync_waits sync_begun
step_6 = HandsCall sync _ (between refl refl refl refl) refl (record { first = refl; after = refl })

step_7 : Step area sync_begun cut
step_7 = Takes incoming.End sync _ refl (record { at_rest = at_rest refl refl; live = refl; needed = refl })
    (TakesEnd _ refl (IsRunOut _ Stays (record { events = lit≤ tt; paid = refl })))

-- the row
row : Runs area (start default_policy events) cut
row = flushes default_policy later ▸ step_5 ▸ step_6 ▸ step_7

-- what is read off: the call has no answer
abbrev pub transcript : Transcript
transcript = record {
  marks = Issued write_both (driver 1) ∷ Flush ∷ Started (driver 1) ∷ [];
  sent = [];
  drivers = idle ∷ [];
  frames = λ block. None;
  unanswered = 1;
  image = concat (sectors_with old_0 old_1);
}

-- the run is the schedule's, exactly
pub cut_is_exact : IsExact sizes image (setup default_policy) supply events transcript
cut_is_exact = record {
  first = (start default_policy events).run;
  opened = opened default_policy events;
  last = cut;
  steps = row;
  over = record {
    spent = record { events = lit≤ tt; paid = refl };
    calm = refl;
    ends = inr (refl, record { call = sync; answers = refl; needed = refl; not_given_up = refl });
  };
  read_off = record { marks = refl; sent = refl; drivers = refl; image = refl; unanswered = refl };
}
