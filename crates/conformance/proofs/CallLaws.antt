-- The calls that arrived are those that wait, the one that is being answered, and those that were answered, at each moment of a run.
use Rattle.std.proofs.Common.{◌≡◌, List, [], ◌∷◌, ◌++◌, refl, sym, ◌∙◌, ap, subst}
use Rattle.std.specs.Prelude.{map, reverse, length, Some, None, Ok}
use Rattle.message.specs.declared.Incoming.TheVariants as incoming
use Rattle.bdev.specs.DriverState.{DriverState}
use Rattle.media.specs.Contents.{MediaState}
use Rattle.reincarnate.specs.declared.policy.Policy.{Policy}
use Rattle.reincarnate.specs.Watch.{new_watch}
use Rattle.records.specs.Area.{Area}
use Rattle.records.specs.Marks.{Mark}
use Rattle.records.specs.Told.{Received}
use Rattle.schedule.specs.declared.Event.{Event}
use Rattle.schedule.specs.Groups.{Group}
use Rattle.schedule.specs.Calls.{Arrival, arrived, taken}
use Rattle.schedule.specs.Noted.{Noted, marks_in, grouped, with_mark}
use Rattle.schedule.specs.declared.log.LogEntry.TheVariants as entry
use Rattle.simulated_link.specs.Scene.{Scene}
use Rattle.schedule.specs.declared.arrived.Arrived.{Arrived}
use Rattle.simulated_link.specs.StateView.{RunState, IsOpened, first_noted, RunsEvent, Further, Still, HandsEvent, HandsNone, HandsOwed, noting, paid}
use Rattle.simulated_link.specs.Waiting.{HasCalls, arrival_of}
use Rattle.simulated_link.specs.Moments.{Doing, Resting, Answering, Moment, Step, Begins as StepBegins, Tells, Takes as StepTakes, Settles, Brings, BringsNone, Pays as StepPays, HandsCall, Replies as StepReplies}
use Rattle.simulated_link.proofs.Waits.{servers_hand_none, asides_hand_none, one_is_handed_out, it_is_answered}
use Rattle.conformance.specs.Said.{IsBegun}
use Rattle.conformance.specs.Ordered.{answering}

pub at_rest : (m : Moment) → m.doing ≡ Resting → HasCalls (answering m.doing) m.run → HasCalls [] m.run
at_rest m rests h = subst (λ (l : List Arrival). HasCalls l m.run) (ap answering rests) h

pub at_work : (m : Moment) (call : Arrived) → m.doing ≡ Answering call → HasCalls (answering m.doing) m.run
    → HasCalls (arrival_of call ∷ []) m.run
at_work m call works h = subst (λ (l : List Arrival). HasCalls l m.run) (ap answering works) h

-- events are run
pub next_calls : (out : List Arrival) (b a : RunState) → RunsEvent b None a → HasCalls out b → HasCalls out a
next_calls out b a next h = asides_hand_none out b a (Ok None) (HandsNone a next) h

-- a step
pub step_calls : (area : Area) (m a : Moment) → Step area m a → HasCalls (answering m.doing) m.run → HasCalls (answering a.doing) a.run
step_calls area m _ (StepBegins r busy may) h = h
step_calls area m _ (Tells told a busy nothing may turn) h =
    servers_hand_none (answering m.doing) m.run a (Further m.run a told Still turn) h
step_calls area m _ (StepTakes message call a doing may turn) h =
    servers_hand_none (answering m.doing) m.run a (Further m.run a (Received message) Still turn) h
step_calls area m _ (Settles message doing rest) h = subst (λ (l : List Arrival). HasCalls l m.run) (ap answering doing) h
step_calls area m _ (Brings message a between none next) h =
    asides_hand_none [] m.run (noting (entry.Handed message) a) (Ok (Some message)) (HandsEvent message a next) (at_rest m between.rests h)
step_calls area m _ (BringsNone a between none next) h = next_calls (answering m.doing) m.run a next h
step_calls area m _ (StepPays between owed told) h =
    asides_hand_none [] m.run (noting (entry.Handed incoming.GaveUp) (paid m.run)) (Ok (Some incoming.GaveUp)) (HandsOwed between.live owed told)
    (at_rest m between.rests h)
step_calls area m _ (HandsCall call a between paid_so hands) h = one_is_handed_out m.run a call hands (at_rest m between.rests h)
step_calls area m _ (StepReplies call reply doing live rest) h =
    it_is_answered m.run (noting (entry.Took call.who call.now call.call reply) m.run) call reply refl (at_work m call doing h)

-- before the first event no call arrived
pub opened_calls : (media : MediaState) (rules : Policy) (supply : List DriverState) (events : List Event) (m : Moment)
    → IsOpened media rules (new_watch (length supply)) supply events m.run → m.doing ≡ Resting → HasCalls (answering m.doing) m.run
opened_calls media rules supply events m o rests =
    let s : m.run.scene.noted ≡ first_noted = ap (λ (x : Scene). x.noted) o.scene.is in
    record {
      order = ap (λ (n : Noted). arrived n.groups) s
          ∙ sym (ap (λ (n : Noted). reverse (map arrival_of m.run.queue) ++ (answering m.doing ++ taken (marks_in n))) s
          ∙ ap (λ (l : List Arrived). reverse (map arrival_of l) ++ (answering m.doing ++ [])) o.queue
          ∙ ap (λ (d : Doing). answering d ++ []) rests);
    }

-- a mark more stands in the group of the last event
pub mark_groups : (n : Noted) (m : Mark) (begun : IsBegun n.groups)
    → (with_mark m n).groups ≡ (begun.event, m ∷ begun.group) ∷ begun.earlier
mark_groups n m begun = ap (λ (l : List Group). (grouped m l n.first n).groups) begun.is
