-- What holds of each exact run, whatever its drivers do and its server answers: every event was run, in order, and the calls that have an
-- answer are the first that arrived, in order.
use Rattle.std.specs.Prelude.{◌≡◌, ℕ, List, [], ◌∷◌, ◌++◌, length, map, reverse, take, Some, None, Ok, refl}
use Rattle.std.proofs.Common.{ap, sym, ◌∙◌, subst, take_all}
use Rattle.std.proofs.lemmas.List.{append_assoc, reverse-reverse}
use Rattle.message.specs.declared.Incoming.TheVariants as incoming
use Rattle.bdev.specs.DriverState.{DriverState}
use Rattle.reincarnate.specs.declared.policy.Setup.{Setup}
use Rattle.media.specs.Contents.{MediaState}
use Rattle.reincarnate.specs.declared.policy.Policy.{Policy}
use Rattle.reincarnate.specs.Watch.{Watch}
use Rattle.layout.specs.declared.Geometry.{Geometry}
use Rattle.records.specs.Area.{Area, area_of}
use Rattle.records.specs.Marks.{Mark}
use Rattle.records.specs.Told.{Told, Received}
use Rattle.schedule.specs.declared.Event.{Event}
use Rattle.schedule.specs.declared.Event.TheVariants as event
use Rattle.schedule.specs.Groups.{Group, event_of, schedule_of}
use Rattle.schedule.specs.Calls.{Arrival, arrived, taken}
use Rattle.schedule.specs.Headline.{Transcript}
use Rattle.schedule.specs.Noted.{Noted, marks_in}
use Rattle.schedule.specs.declared.arrived.Arrived.{Arrived}
use Rattle.schedule.specs.declared.log.LogEntry.TheVariants as entry
use Rattle.simulated_link.specs.Scene.{Scene}
use Rattle.simulated_link.specs.Laws.{LeadsOn, IsSound}
use Rattle.simulated_link.specs.Waiting.{HasCalls, arrival_of}
use Rattle.simulated_link.specs.StateView.{RunState, first_noted, noting, paid, Still, Further, Turn, Asides, HandsEvent, HandsNone}
use Rattle.simulated_link.specs.StateView.{HandsOwed, IsOpened}
use Rattle.simulated_link.specs.Moments.{Moment, Doing, Resting, Step, Begins, Tells, Takes, Settles, Brings, BringsNone, Pays, HandsCall}
use Rattle.simulated_link.specs.Moments.{Replies, Runs, Starts, Then}
use Rattle.simulated_link.proofs.Leading.{leads_stays, leads_joins, turns_lead_on, asides_lead_on, calls_lead_on, answers_lead_on}
use Rattle.simulated_link.proofs.Waits.{servers_hand_none, asides_hand_none, one_is_handed_out, it_is_answered}
use Rattle.world.specs.Runs.{out_in}
use Rattle.world.specs.Starts.{at_first}
use Rattle.world.specs.Exact.{IsExact, unanswered_in}

-- from one moment to another the schedule stays and no event is skipped, and each call has its place
record Goes (b a : Moment) : Type 0 where
  leads : LeadsOn b.run a.run
  calls : HasCalls (out_in b.doing) b.run → HasCalls (out_in a.doing) a.run

by_turn : (b : Moment) (told : Told) (a : RunState) → Turn b.run told a → HasCalls (out_in b.doing) b.run → HasCalls (out_in b.doing) a
by_turn b told a turn calls = servers_hand_none (out_in b.doing) b.run a (Further b.run a told Still turn) calls

resting : (d : Doing) (p : RunState) → d ≡ Resting → HasCalls (out_in d) p → HasCalls [] p
resting d p rests calls = subst (λ (x : Doing). HasCalls (out_in x) p) rests calls

step_goes : (area : Area) (b a : Moment) → Step area b a → Goes b a
step_goes area b _ (Begins r busy may) = record { leads = leads_stays b.run; calls = λ c. c }
step_goes area b _ (Tells told a busy nothing may turn) = record { leads = turns_lead_on b.run a told turn; calls = by_turn b told a turn }
step_goes area b _ (Takes message call a answers may turn) =
    record { leads = turns_lead_on b.run a (Received message) turn; calls = by_turn b (Received message) a turn }
step_goes area b _ (Settles message hears calm) =
    record { leads = leads_stays b.run; calls = λ c. subst (λ (d : Doing). HasCalls (out_in d) b.run) hears c }
step_goes area b _ (Brings message a between none runs) =
    let aside : Asides b.run (Ok (Some message)) (noting (entry.Handed message) a) = HandsEvent message a runs in
    record {
      leads = (asides_lead_on b.run (noting (entry.Handed message) a) (Ok (Some message)) aside).leads;
      calls = λ c. asides_hand_none [] b.run (noting (entry.Handed message) a) (Ok (Some message)) aside
          (resting b.doing b.run between.rests c);
    }
step_goes area b _ (BringsNone a between none runs) =
    let aside : Asides b.run (Ok None) a = HandsNone a runs in
    record {
      leads = (asides_lead_on b.run a (Ok None) aside).leads;
      calls = λ c. subst (λ (d : Doing). HasCalls (out_in d) a) (sym between.rests)
          (asides_hand_none [] b.run a (Ok None) aside (resting b.doing b.run between.rests c));
    }
step_goes area b _ (Pays between owed told) =
    let told_run = noting (entry.Handed incoming.GaveUp) (paid b.run) in
    let aside : Asides b.run (Ok (Some incoming.GaveUp)) told_run = HandsOwed between.live owed told in
    record {
      leads = (asides_lead_on b.run told_run (Ok (Some incoming.GaveUp)) aside).leads;
      calls = λ c. asides_hand_none [] b.run told_run (Ok (Some incoming.GaveUp)) aside (resting b.doing b.run between.rests c);
    }
step_goes area b _ (HandsCall call a between settled hands) = record {
  leads = (calls_lead_on b.run a (Some call) hands).leads;
  calls = λ c. one_is_handed_out b.run a call hands (resting b.doing b.run between.rests c);
}
step_goes area b _ (Replies call reply answers live calm) =
    let after = noting (entry.Took call.who call.now call.call reply) b.run in
    record {
      leads = answers_lead_on b.run after call reply (Ok tt) refl;
      calls = λ c. it_is_answered b.run after call reply refl (subst (λ (d : Doing). HasCalls (out_in d) b.run) answers c);
    }

run_goes : (area : Area) (b a : Moment) → Runs area b a → Goes b a
run_goes area b _ Starts = record { leads = leads_stays b.run; calls = λ c. c }
run_goes area b _ (Then m a before last) =
    let first = run_goes area b m before in
    let next = step_goes area m a last in
    record { leads = leads_joins b.run m.run a.run first.leads next.leads; calls = λ c. next.calls (first.calls c) }

-- the calls that these events bring, newest first, the events being newest first too
abbrev pub calls_in : List Event → List Arrival
calls_in [] = []
calls_in (event.Arrive who now call ∷ events) = (who, now, call) ∷ calls_in events
calls_in (event.Flush ∷ events) = calls_in events
calls_in (event.Tick ∷ events) = calls_in events
calls_in (event.Step g ∷ events) = calls_in events
calls_in (event.Die g bytes ∷ events) = calls_in events
calls_in (event.Hang g ∷ events) = calls_in events
calls_in (event.Deliver n ∷ events) = calls_in events
calls_in (event.Repeat n ∷ events) = calls_in events

arrived_in : (groups : List Group) → arrived groups ≡ calls_in (map event_of groups)
arrived_in [] = refl
arrived_in ((event.Arrive who now call, group) ∷ earlier) = ap (λ (l : List Arrival). (who, now, call) ∷ l) (arrived_in earlier)
arrived_in ((event.Flush, group) ∷ earlier) = arrived_in earlier
arrived_in ((event.Tick, group) ∷ earlier) = arrived_in earlier
arrived_in ((event.Step g, group) ∷ earlier) = arrived_in earlier
arrived_in ((event.Die g bytes, group) ∷ earlier) = arrived_in earlier
arrived_in ((event.Hang g, group) ∷ earlier) = arrived_in earlier
arrived_in ((event.Deliver n, group) ∷ earlier) = arrived_in earlier
arrived_in ((event.Repeat n, group) ∷ earlier) = arrived_in earlier

-- no event was run and no call waits
first_is_sound : (p : RunState) (media : MediaState) (rules : Policy) (watch : Watch) (supply : List DriverState) (events : List Event)
    → IsOpened media rules watch supply events p → IsSound p × HasCalls [] p
first_is_sound p media rules watch supply events o =
    let noted : p.scene.noted ≡ first_noted = ap (λ (s : Scene). s.noted) o.scene.is in (
      record { schedule = ap (λ (n : Noted). schedule_of n.groups) noted ∙ ap (λ (n : ℕ). take n p.events) (sym o.next) },
      record {
        order = ap (λ (n : Noted). arrived n.groups) noted
            ∙ ap (λ (q : List Arrived). reverse (map arrival_of q) ++ ([] ++ taken (marks_in first_noted))) (sym o.queue)
            ∙ ap (λ (n : Noted). reverse (map arrival_of p.queue) ++ ([] ++ taken (marks_in n))) (sym noted);
      },
    )

-- of the calls that these events bring the first have an answer in the transcript, in order, and as many as it tells have none
pub record AnswersFirst (events : List Event) (t : Transcript) : Type 0 where
  pub left : List Arrival
  pub calls : calls_in (reverse events) ≡ left ++ taken t.marks
  pub number : t.unanswered ≡ length left

pub each_event_is_run : (g : Geometry) (image : List ℕ) (setup : Setup) (supply : List DriverState) (events : List Event) (t : Transcript)
    → (e : IsExact g image setup supply events t) → schedule_of e.last.run.scene.noted.groups ≡ events
each_event_is_run g image setup supply events t e =
    let goes = run_goes (area_of g setup.minor) (at_first e.first) e.last e.steps in
    let sound = (first_is_sound e.first _ _ _ supply events e.opened).0 in
    let same : e.last.run.events ≡ events = goes.leads.events ∙ e.opened.events_are in
    (goes.leads.sound sound).schedule ∙ take_all e.last.run.next e.last.run.events e.over.spent.events ∙ same

pub answers_first : (g : Geometry) (image : List ℕ) (setup : Setup) (supply : List DriverState) (events : List Event) (t : Transcript)
    → IsExact g image setup supply events t → AnswersFirst events t
answers_first g image setup supply events t e =
    let goes = run_goes (area_of g setup.minor) (at_first e.first) e.last e.steps in
    let calls = goes.calls (first_is_sound e.first _ _ _ supply events e.opened).1 in
    let groups = e.last.run.scene.noted.groups in
    let newest : map event_of groups ≡ reverse events =
    sym (reverse-reverse (map event_of groups)) ∙ ap reverse (each_event_is_run g image setup supply events t e) in
    record {
      left = unanswered_in e.last;
      calls = sym (ap calls_in newest) ∙ sym (arrived_in groups) ∙ calls.order
          ∙ sym (append_assoc (reverse (map arrival_of e.last.run.queue)) (out_in e.last.doing) (taken (marks_in e.last.run.scene.noted)))
          ∙ ap (λ (m : List Mark). unanswered_in e.last ++ taken m) (sym e.read_off.marks);
      number = e.read_off.unanswered;
    }
