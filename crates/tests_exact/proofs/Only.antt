-- What a step is while the server rests: what is owed is told first; then the first call that waits is handed out; else the next event is
-- run, and does all that it does. Nothing else is a step then.
use Rattle.records.specs.Area.{Area}
use Rattle.std.specs.Prelude.{◌≡◌, List, [], ◌∷◌, ◌++◌, true, false, Option, Some, None, refl, drop, slice_get}
use Rattle.std.proofs.Common.{ap, sym, ◌∙◌, subst}
use Rattle.lemmas.proofs.Options.{some_same}
use Rattle.message.specs.declared.Incoming.{Incoming}
use Rattle.message.specs.declared.Incoming.TheVariants as incoming
use Rattle.schedule.specs.ArrivingCalls.{calls_of}
use Rattle.schedule.specs.declared.Event.{Event}
use Rattle.schedule.specs.declared.arrived.Arrived.{Arrived}
use Rattle.simulated_link.specs.Moments.{Moment, Doing, Resting, Hearing, Answering, is_busy, hearing, Step, Begins, Tells, Takes, Settles}
use Rattle.simulated_link.specs.Moments.{Brings, BringsNone, Pays, HandsCall, Replies}
use Rattle.simulated_link.specs.RunState.{begun}
use Rattle.simulated_link.specs.Scene.{Scene, Occurs}
use Rattle.simulated_link.specs.StateView.{RunState, RunsEvent, paid}
use Rattle.tests_exact.proofs.Making.{after_event}

-- the event that is run is the next one, and nothing but what it does is done
pub runs_this : (b a : RunState) (result : Option Incoming) (event : Event) → slice_get b.events b.next ≡ Some event → RunsEvent b result a
    → Occurs b.next event (begun event b.scene) result a.scene × (a ≡ after_event event a.scene b)
runs_this b a result event is runs =
    let same : runs.event ≡ event = some_same runs.event event (sym runs.is ∙ is) in (
      subst (λ (e : Event). Occurs b.next e (begun e b.scene) result a.scene) same runs.plays,
      λ i. record {
        scene = a.scene;
        events = runs.events i;
        next = runs.next i;
        queue = (runs.queue ∙ ap (λ (e : Event). b.queue ++ calls_of e) same) i;
        owed = runs.owed i;
        told = runs.told i;
        over = runs.over i;
        starved = runs.starved i;
      },
    )

-- the moment after an event that left this: its message, if it brought one, is heard
abbrev pub moment_after : Option Incoming → RunState → Moment → Moment
moment_after None a m = record m { run = a }
moment_after (Some message) a m = hearing message a m

-- a step that runs an event
pub record RunsNext (m : Moment) (event : Event) (a : Moment) : Type 0 where
  pub result : Option Incoming
  pub scene : Scene
  pub occurs : Occurs m.run.next event (begun event m.run.scene) result scene
  pub is : a ≡ moment_after result (after_event event scene m.run) m

-- it does nothing, and isn't busy
resting_is_not_busy : (d : Doing) → d ≡ Resting → is_busy d ≡ true → ⊥
resting_is_not_busy Resting rests busy = cc
resting_is_not_busy (Hearing message) rests busy = cc
resting_is_not_busy (Answering call) rests busy = cc

-- it does nothing, and answers no call
resting_is_not_answering : {d : Doing} {call : Arrived} → d ≡ Resting → d ≡ Answering call → ⊥
resting_is_not_answering {call = call} rests answers = let h : Resting ≡ Answering call = sym rests ∙ answers in cc

-- where no call waits and nothing is owed, the next event is run
pub next_event : (m : Moment) (event : Event) → m.doing ≡ Resting → m.run.queue ≡ [] → m.run.owed ≡ false
    → slice_get m.run.events m.run.next ≡ Some event → (area : Area) (a : Moment) → Step area m a → RunsNext m event a
next_event m event rests none paid is area _ (Begins r busy may) = absurd (resting_is_not_busy m.doing rests busy)
next_event m event rests none paid is area _ (Tells told a busy nothing may turn) = absurd (resting_is_not_busy m.doing rests busy)
next_event m event rests none paid is area _ (Takes message call a answers may turn) = absurd (resting_is_not_answering rests answers)
next_event m event rests none paid is area _ (Settles message hears calm) = let h : Resting ≡ Hearing message = sym rests ∙ hears in cc
next_event m event rests none paid is area _ (Brings message a between waits runs) =
    let this = runs_this m.run a (Some message) event is runs in
    record { result = Some message; scene = a.scene; occurs = this.0; is = ap (λ (r : RunState). hearing message r m) this.1 }
next_event m event rests none paid is area _ (BringsNone a between waits runs) =
    let this = runs_this m.run a None event is runs in
    record { result = None; scene = a.scene; occurs = this.0; is = ap (λ (r : RunState). record m { run = r }) this.1 }
next_event m event rests none paid is area _ (Pays between owed told) = let h : true ≡ false = sym owed ∙ paid in cc
next_event m event rests none paid is area _ (HandsCall call a between settled hands) =
    let h : Some call ≡ None = hands.first ∙ ap (λ (q : List Arrived). slice_get q 0) none in cc
next_event m event rests none paid is area _ (Replies call reply answers live calm) = absurd (resting_is_not_answering rests answers)

-- where a call waits and nothing is owed, the first that waits is handed out
pub first_call : (m : Moment) (call : Arrived) (rest : List Arrived) → m.doing ≡ Resting → m.run.queue ≡ call ∷ rest → m.run.owed ≡ false
    → (area : Area) (a : Moment) → Step area m a → a ≡ record m { run = record (m.run) { queue = rest }; doing = Answering call }
first_call m call rest rests waits paid area _ (Begins r busy may) = absurd (resting_is_not_busy m.doing rests busy)
first_call m call rest rests waits paid area _ (Tells told a busy nothing may turn) = absurd (resting_is_not_busy m.doing rests busy)
first_call m call rest rests waits paid area _ (Takes message other a answers may turn) = absurd (resting_is_not_answering rests answers)
first_call m call rest rests waits paid area _ (Settles message hears calm) = let h : Resting ≡ Hearing message = sym rests ∙ hears in cc
first_call m call rest rests waits paid area _ (Brings message a between none runs) = let h : call ∷ rest ≡ [] = sym waits ∙ none in cc
first_call m call rest rests waits paid area _ (BringsNone a between none runs) = let h : call ∷ rest ≡ [] = sym waits ∙ none in cc
first_call m call rest rests waits paid area _ (Pays between owed told) = let h : true ≡ false = sym owed ∙ paid in cc
first_call m call rest rests waits paid area _ (HandsCall other a between settled hands) =
    let same : other ≡ call = some_same other call (hands.first ∙ ap (λ (q : List Arrived). slice_get q 0) waits) in
    let left : a ≡ record (m.run) { queue = rest } = hands.after ∙ ap (λ (q : List Arrived). record (m.run) { queue = drop 1 q }) waits in
    λ i. record { run = left i; outbox = m.outbox; doing = Answering (same i) }
first_call m call rest rests waits paid area _ (Replies other reply answers live calm) = absurd (resting_is_not_answering rests answers)

-- where it is owed that the device was given up, that is told
pub owed_is_told : (m : Moment) → m.doing ≡ Resting → m.run.owed ≡ true → (area : Area) (a : Moment) → Step area m a
    → a ≡ hearing incoming.GaveUp (paid m.run) m
owed_is_told m rests owed area _ (Begins r busy may) = absurd (resting_is_not_busy m.doing rests busy)
owed_is_told m rests owed area _ (Tells told a busy nothing may turn) = absurd (resting_is_not_busy m.doing rests busy)
owed_is_told m rests owed area _ (Takes message call a answers may turn) = absurd (resting_is_not_answering rests answers)
owed_is_told m rests owed area _ (Settles message hears calm) = let h : Resting ≡ Hearing message = sym rests ∙ hears in cc
owed_is_told m rests owed area _ (Brings message a between none runs) = let h : true ≡ false = sym owed ∙ runs.paid in cc
owed_is_told m rests owed area _ (BringsNone a between none runs) = let h : true ≡ false = sym owed ∙ runs.paid in cc
owed_is_told m rests owed area _ (Pays between is told) = refl
owed_is_told m rests owed area _ (HandsCall call a between settled hands) = let h : true ≡ false = sym owed ∙ settled in cc
owed_is_told m rests owed area _ (Replies call reply answers live calm) = absurd (resting_is_not_answering rests answers)
