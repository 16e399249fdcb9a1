-- A step keeps its promises where the bytes of its answer stand elsewhere: those of an answer to a write have no meaning.
use Rattle.std.specs.Prelude.{ℕ, ◌≡◌, ◌*◌, Bool, true, false, List, [], ◌∷◌, MatchBool, if◌then◌else◌}
use Rattle.std.specs.Prelude.{Option, Some, None, Result, Ok, Err}
use Rattle.std.proofs.Common.{inl, inr, refl, sym, ◌∙◌, ap, subst}
use Rattle.errno.specs.declared.Errno.{Errno}
use Rattle.message.specs.declared.Kind.{Kind}
use Rattle.message.specs.declared.Kind.TheVariants.{Read, Write}
use Rattle.media.specs.Contents.{MediaState, accepts}
use Rattle.bdev.specs.declared.Answer.{Answer}
use Rattle.bdev.specs.declared.Completion.{Completion}
use Rattle.bdev.specs.declared.Run.{Run}
use Rattle.bdev.specs.declared.Step.{Step}
use Rattle.bdev.specs.declared.Step.TheVariants as step
use Rattle.bdev.specs.declared.Stepped.{Stepped}
use Rattle.bdev.specs.declared.Stepped.TheVariants.{Working, Idle, Done, Failed}
use Rattle.bdev.specs.DriverState.{DriverState, Work, plan}
use Rattle.bdev.specs.Promises.{StepKeeps, StepsAt, MovesAtMostOne, EndsBy, MayAnswer, BearsBytes}
use Rattle.bdev.specs.Stepping.{step_with}
use Rattle.modeldisk.specs.declared.sector_mover.mover.Mover.{Mover}
use Rattle.modeldisk.specs.declared.fault.FaultKind.{FaultKind}
use Rattle.modeldisk.specs.declared.fault.FaultKind.TheVariants.{Die, Hang, Short, Error}
use Rattle.modeldisk.specs.Order.{AnswersWith, GoesOnWith, StepsInOrder}
use Rattle.modeldisk.specs.Faults.{PlaysFault, StepsBy}
use Rattle.modeldisk.specs.Mover.{handed, left_of, outcome_of, run_of, state_of, work_of}

-- of a write any bytes will do
bears_any : (kind : Kind) (own bytes : List ℕ) (n : ℕ) → kind ≡ Write → BearsBytes kind own bytes n
bears_any kind own bytes n is = let P : Kind → Type 0 = λ k. BearsBytes k own bytes n in subst P (sym is) tt

may_any : (o : Option Run) (w : Work) (outcome : Result ℕ Errno) (got bytes : List ℕ) → w.request.kind ≡ Write → MayAnswer o w outcome got
    → MayAnswer o w outcome bytes
may_any None w outcome got bytes is may = may
may_any (Some run) w (Err e) got bytes is may = tt
may_any (Some run) w (Ok n) got bytes is may = record {
  whole = may.whole;
  within = may.within;
  moved = may.moved;
  bears = bears_any w.request.kind w.got bytes n is;
}

-- a step leaves the request as it is
same_kind : (b : DriverState) (w : Work) (m : MediaState) (g : ℕ) (w' : Work) (m' : MediaState) → MovesAtMostOne b w m g w' m'
    → w'.request.kind ≡ w.request.kind
same_kind b w m g w' m' moves = elim moves [
  | inl n ↦ ap (λ (x : Work). x.request.kind) n.same_work
  | inr p ↦ ap (λ x. x.kind) p.same_request
]

-- the answer with these bytes
abbrev answer_of : Completion → List ℕ → Answer
answer_of c bytes = record { id = c.id; outcome = c.outcome; bytes = bytes }

ends_any : (b : DriverState) (w : Work) (c : Completion) (got bytes : List ℕ) (a : DriverState) → w.request.kind ≡ Write
    → EndsBy b w (answer_of c got) a → EndsBy b w (answer_of c bytes) a
ends_any b w c got bytes a is ends = record {
  ended = ends.ended;
  same_failed = ends.same_failed;
  id = ends.id;
  answers = may_any (plan b.ranges w.request) w c.outcome got bytes is ends.answers;
  counts = ends.counts;
}

steps_any : (b : DriverState) (busy : Bool) (w : Work) (m : MediaState) (g : ℕ) (c : Completion) (got bytes : List ℕ)
    → (a : DriverState) (m' : MediaState) → w.request.kind ≡ Write
    → StepsAt b (if busy then Some w else None) m g (step.Done (answer_of c got)) a m'
    → StepsAt b (if busy then Some w else None) m g (step.Done (answer_of c bytes)) a m'
steps_any b false w m g c got bytes a m' is steps = steps
steps_any b true w m g c got bytes a m' is steps =
    (steps.0, steps.1, ends_any b steps.0 c got bytes a (same_kind b w m g steps.0 m' steps.1 ∙ is) steps.2)

keeps_done : (b : Mover) (kind : Kind) (m : MediaState) (g : ℕ) (c : Completion) (got room : List ℕ) (a : DriverState) (m' : MediaState)
    → b.request.kind ≡ kind → StepKeeps (state_of b) m g (step.Done (answer_of c got)) a m'
    → StepKeeps (state_of b) m g (step.Done (answer_of c (handed kind (Done c) got room))) a m'
keeps_done b Read m g c got room a m' is keeps = keeps
keeps_done b Write m g c got room a m' is keeps = record {
  same_ranges = keeps.same_ranges;
  same_last = keeps.same_last;
  steps = steps_any (state_of b) b.busy (work_of b) m g c got room a m' is keeps.steps;
}

keeps_put : (b : Mover) (m : MediaState) (g : ℕ) (s : Stepped) (got room : List ℕ) (a : DriverState) (m' : MediaState)
    → StepKeeps (state_of b) m g (step_with s got) a m' → StepKeeps (state_of b) m g (step_with s (handed b.request.kind s got room)) a m'
keeps_put b m g Working got room a m' keeps = keeps
keeps_put b m g Idle got room a m' keeps = keeps
keeps_put b m g Failed got room a m' keeps = keeps
keeps_put b m g (Done c) got room a m' keeps = keeps_done b b.request.kind m g c got room a m' refl keeps

-- a step whose answer is handed over keeps the promises
pub keeps_handed : (b : Mover) (m : MediaState) (g : ℕ) (s : Stepped) (room put : List ℕ) (a : Mover) (m' : MediaState)
    → a.request ≡ b.request → put ≡ handed a.request.kind s a.got room
    → StepKeeps (state_of b) m g (step_with s a.got) (state_of a) m' → StepKeeps (state_of b) m g (step_with s put) (state_of a) m'
keeps_handed b m g s room put a m' same is keeps =
    let P : List ℕ → Type 0 = λ bytes. StepKeeps (state_of b) m g (step_with s bytes) (state_of a) m' in
    let at : put ≡ handed b.request.kind s a.got room = is ∙ ap (λ q. handed q.kind s a.got room) same in
    subst P (sym at) (keeps_put b m g s a.got room (state_of a) m' keeps)

-- the step, its answer with these bytes
abbrev bearing : List ℕ → Step → Step
bearing bytes step.Working = step.Working
bearing bytes step.Idle = step.Idle
bearing bytes (step.Done answer) = step.Done (record answer { bytes = bytes })
bearing bytes step.Failed = step.Failed

bearing_with : (s : Stepped) (got bytes : List ℕ) → step_with s bytes ≡ bearing bytes (step_with s got)
bearing_with Working got bytes = refl
bearing_with Idle got bytes = refl
bearing_with (Done c) got bytes = refl
bearing_with Failed got bytes = refl

answers_bearing : (bytes : List ℕ) (outcome : Result ℕ Errno) (s : Step) → AnswersWith outcome s → AnswersWith outcome (bearing bytes s)
answers_bearing bytes outcome step.Working h = h
answers_bearing bytes outcome step.Idle h = h
answers_bearing bytes outcome (step.Done answer) h = h
answers_bearing bytes outcome step.Failed h = h

goes_bearing : (bytes : List ℕ) (left : List ℕ) (outcome : Result ℕ Errno) (s : Step) → GoesOnWith left outcome s
    → GoesOnWith left outcome (bearing bytes s)
goes_bearing bytes [] outcome s h = answers_bearing bytes outcome s h
goes_bearing bytes (x ∷ left) outcome s h = ap (bearing bytes) h

next_bearing : (bytes : List ℕ) (accepted : Bool) (n : ℕ) (left : List ℕ) (outcome : Result ℕ Errno) (s : Step) (left' : List ℕ)
    → MatchBool accepted (GoesOnWith left outcome s × (left' ≡ left)) ((s ≡ step.Failed) × (left' ≡ n ∷ left))
    → MatchBool accepted (GoesOnWith left outcome (bearing bytes s) × (left' ≡ left)) ((bearing bytes s ≡ step.Failed) × (left' ≡ n ∷ left))
next_bearing bytes true n left outcome s left' h = (goes_bearing bytes left outcome s h.0, h.1)
next_bearing bytes false n left outcome s left' h = (ap (bearing bytes) h.0, h.1)

steps_bearing : (bytes : List ℕ) (busy : Bool) (left : List ℕ) (outcome : Result ℕ Errno) (m : MediaState) (g : ℕ) (s : Step)
    → (left' : List ℕ) → StepsInOrder busy left outcome m g s left' → StepsInOrder busy left outcome m g (bearing bytes s) left'
steps_bearing bytes false left outcome m g s left' h = (ap (bearing bytes) h.0, h.1)
steps_bearing bytes true [] outcome m g s left' h = (answers_bearing bytes outcome s h.0, h.1)
steps_bearing bytes true (n ∷ left) outcome m g s left' h = next_bearing bytes (accepts m g n) n left outcome s left' h

-- the order of a step asks nothing of the bytes
pub order_bearing : (busy : Bool) (left : List ℕ) (outcome : Result ℕ Errno) (m : MediaState) (g : ℕ) (s : Stepped)
    → (got bytes left' : List ℕ) → StepsInOrder busy left outcome m g (step_with s got) left'
    → StepsInOrder busy left outcome m g (step_with s bytes) left'
order_bearing busy left outcome m g s got bytes left' h =
    let P : Step → Type 0 = λ x. StepsInOrder busy left outcome m g x left' in
    subst P (sym (bearing_with s got bytes)) (steps_bearing bytes busy left outcome m g (step_with s got) left' h)

plays_bearing : (bytes : List ℕ) (kind : FaultKind) (o : Option Run) (b : Mover) (m : MediaState) (g : ℕ) (s : Step) (a : Mover)
    → PlaysFault kind o b m g s a → PlaysFault kind o b m g (bearing bytes s) a
plays_bearing bytes Die o b m g s a h = (ap (bearing bytes) h.0, h.1)
plays_bearing bytes Hang o b m g s a h = (ap (bearing bytes) h.0, h.1)
plays_bearing bytes Short None b m g s a h = steps_bearing bytes b.busy (left_of b) (outcome_of b) m g s (left_of a) h
plays_bearing bytes Short (Some run) b m g s a h =
    record { sectors = h.sectors; leading = h.leading; answers = answers_bearing bytes (Ok (512 * h.sectors)) s h.answers }
plays_bearing bytes (Error e) None b m g s a h = steps_bearing bytes b.busy (left_of b) (outcome_of b) m g s (left_of a) h
plays_bearing bytes (Error e) (Some run) b m g s a h = answers_bearing bytes (Err e) s h

by_bearing : (bytes : List ℕ) (busy : Bool) (due : Option FaultKind) (b : Mover) (m : MediaState) (g : ℕ) (s : Step) (a : Mover)
    → StepsBy busy due b m g s a → StepsBy busy due b m g (bearing bytes s) a
by_bearing bytes false due b m g s a h = steps_bearing bytes b.busy (left_of b) (outcome_of b) m g s (left_of a) h
by_bearing bytes true None b m g s a h = steps_bearing bytes b.busy (left_of b) (outcome_of b) m g s (left_of a) h
by_bearing bytes true (Some kind) b m g s a h = plays_bearing bytes kind (run_of b) b m g s a h

-- nor does a script
pub script_bearing : (busy : Bool) (due : Option FaultKind) (b : Mover) (m : MediaState) (g : ℕ) (s : Stepped) (got bytes : List ℕ)
    → (a : Mover) → StepsBy busy due b m g (step_with s got) a → StepsBy busy due b m g (step_with s bytes) a
script_bearing busy due b m g s got bytes a h =
    let P : Step → Type 0 = λ x. StepsBy busy due b m g x a in
    subst P (sym (bearing_with s got bytes)) (by_bearing bytes busy due b m g (step_with s got) a h)
