-- The watch counts the misses in a row.
use Rattle.std.specs.Prelude.{◌≡◌, ℕ, ◌+◌, ◌<◌, List, [], ◌∷◌, Bool, true, false, ◌==◌, nat_le, if◌then◌else◌, Some, refl}
use Rattle.std.proofs.Common.{arith, ap, sym, subst, ◌∙◌}
use Rattle.std.proofs.lemmas.Bool.Decides.{nat_tests}
use Rattle.message.specs.declared.endpoint.Endpoint.{Endpoint}
use Rattle.reincarnate.specs.declared.policy.Policy.{Policy}
use Rattle.reincarnate.specs.declared.policy.Event.{Event}
use Rattle.reincarnate.specs.declared.policy.Event.TheVariants.{Exit, Tick, Complaint}
use Rattle.reincarnate.specs.Faults.{next_fault, gives_up, restart_tick}
use Rattle.reincarnate.specs.Watch.{Action, Nothing, WaitUntil, GiveUp, Phase, Running, Waiting, GivenUp, Watch, new_watch, is_last_started, is_same_pulse, on, on_fault, on_report, on_start, on_tick, watch_after}
use Rattle.reincarnate.specs.Laws.{is_of_fault, misses_in, with_pulse, pulses_after, is_running, TickIsFault}

-- while a driver runs, the last pulse and the misses are those of the ticks since its start
record Counts (pulses : List (ℕ × ℕ)) (last : ℕ × ℕ) (missed : ℕ) : Type 0 where
  before : List (ℕ × ℕ)
  first : pulses ≡ last ∷ before
  number : missed ≡ misses_in (last ∷ before)

-- in the other phases nothing is counted
abbrev PhaseCounts : List (ℕ × ℕ) → Phase → Type 0
PhaseCounts pulses (Running last missed) = Counts pulses last missed
PhaseCounts pulses (Waiting until) = Unit {0}
PhaseCounts pulses GivenUp = Unit {0}

-- what is counted after an event that did this
abbrev Counted : Event → List (ℕ × ℕ) → Watch × Action → Type 0
Counted event pulses made = PhaseCounts (with_pulse event made.1 pulses) made.0.phase

-- a fault ends the running
counted_at_fault : (policy : Policy) (watch : Watch) (event : Event) (tick : ℕ) (pulses : List (ℕ × ℕ)) → Counted event pulses (on_fault policy watch tick)
counted_at_fault policy watch event tick pulses = at (gives_up policy (next_fault policy.calm watch.fault tick).number watch.spares watch.generation)
  where
    at : (b : Bool) → Counted event pulses
        (if b
        then (record watch { fault = Some (next_fault policy.calm watch.fault tick); phase = GivenUp }, GiveUp)
        else (record watch { fault = Some (next_fault policy.calm watch.fault tick); phase = Waiting (restart_tick policy (next_fault policy.calm watch.fault tick)) }, WaitUntil (restart_tick policy (next_fault policy.calm watch.fault tick))))
    at true = tt
    at false = tt

-- an exit counts no tick
counted_at_exit : (policy : Policy) (watch : Watch) (phase : Phase) (e : Endpoint) (tick : ℕ) (pulses : List (ℕ × ℕ)) → PhaseCounts pulses watch.phase
    → Counted (Exit e tick) pulses (on_report policy watch phase e tick)
counted_at_exit policy watch (Running pulse missed) e tick pulses counts = at (is_last_started watch e)
  where
    at : (b : Bool) → Counted (Exit e tick) pulses (if b then on_fault policy watch tick else (watch, Nothing))
    at true = counted_at_fault policy watch (Exit e tick) tick pulses
    at false = counts
counted_at_exit policy watch (Waiting until) e tick pulses counts = counts
counted_at_exit policy watch GivenUp e tick pulses counts = counts

-- nor does a complaint
counted_at_complaint : (policy : Policy) (watch : Watch) (phase : Phase) (e : Endpoint) (tick : ℕ) (pulses : List (ℕ × ℕ)) → PhaseCounts pulses watch.phase
    → Counted (Complaint e tick) pulses (on_report policy watch phase e tick)
counted_at_complaint policy watch (Running pulse missed) e tick pulses counts = at (is_last_started watch e)
  where
    at : (b : Bool) → Counted (Complaint e tick) pulses (if b then on_fault policy watch tick else (watch, Nothing))
    at true = counted_at_fault policy watch (Complaint e tick) tick pulses
    at false = counts
counted_at_complaint policy watch (Waiting until) e tick pulses counts = counts
counted_at_complaint policy watch GivenUp e tick pulses counts = counts

-- one tick more: a miss more, or none
misses_in-next : (pulses : List (ℕ × ℕ)) (last pulse : ℕ × ℕ) (missed : ℕ) (same : Bool) → Counts pulses last missed → is_same_pulse pulse last ≡ same
    → misses_in (pulse ∷ pulses) ≡ (if same then missed + 1 else 0)
misses_in-next pulses last pulse missed same counts e =
    ap (λ (ps : List (ℕ × ℕ)). misses_in (pulse ∷ ps)) counts.first
    ∙ (ap (λ (b : Bool). if b then misses_in (last ∷ counts.before) + 1 else 0) e
    ∙ ap (λ (n : ℕ). if same then n + 1 else 0) (sym counts.number))

-- a tick is counted
counted_at_tick : (policy : Policy) (watch : Watch) (phase : Phase) (tick : ℕ) (pulse : ℕ × ℕ) (pulses : List (ℕ × ℕ)) → watch.phase ≡ phase → PhaseCounts pulses phase
    → Counted (Tick tick pulse) pulses (on_tick policy watch phase tick pulse)
counted_at_tick policy watch (Running last missed) tick pulse pulses here counts = at (is_same_pulse pulse last) (missed + 1 == policy.misses) refl
  where
    at : (same enough : Bool) → is_same_pulse pulse last ≡ same → Counted (Tick tick pulse) pulses
        (if same
        then (if enough then on_fault policy watch tick else (record watch { phase = Running pulse (missed + 1) }, Nothing))
        else (record watch { phase = Running pulse 0 }, Nothing))
    at true true e = counted_at_fault policy watch (Tick tick pulse) tick pulses
    at true false e = record { before = pulses; first = refl; number = sym (misses_in-next pulses last pulse missed true counts e) }
    at false enough e = record { before = pulses; first = refl; number = sym (misses_in-next pulses last pulse missed false counts e) }
counted_at_tick policy watch (Waiting until) tick pulse pulses here counts = at (nat_le until tick)
  where
    waits : PhaseCounts (pulse ∷ pulses) watch.phase
    waits = let P : Phase → Type 0 = λ p. PhaseCounts (pulse ∷ pulses) p in subst P (sym here) tt

    at : (b : Bool) → Counted (Tick tick pulse) pulses (if b then on_start watch pulse else (watch, Nothing))
    at true = record { before = []; first = refl; number = refl }
    at false = waits
counted_at_tick policy watch GivenUp tick pulse pulses here counts =
    let P : Phase → Type 0 = λ p. PhaseCounts (pulse ∷ pulses) p in subst P (sym here) tt

-- any event
counted_at : (policy : Policy) (watch : Watch) (event : Event) (pulses : List (ℕ × ℕ)) → PhaseCounts pulses watch.phase → Counted event pulses (on policy watch event)
counted_at policy watch (Exit e tick) pulses counts = counted_at_exit policy watch watch.phase e tick pulses counts
counted_at policy watch (Tick tick pulse) pulses counts = counted_at_tick policy watch watch.phase tick pulse pulses refl counts
counted_at policy watch (Complaint e tick) pulses counts = counted_at_complaint policy watch watch.phase e tick pulses counts

-- any events
counted_after : (policy : Policy) (watch : Watch) (events : List Event) (pulses : List (ℕ × ℕ)) → PhaseCounts pulses watch.phase
    → PhaseCounts (pulses_after policy watch events pulses) (watch_after policy watch events).phase
counted_after policy watch [] pulses counts = counts
counted_after policy watch (event ∷ events) pulses counts =
    counted_after policy (on policy watch event).0 events (with_pulse event (on policy watch event).1 pulses) (counted_at policy watch event pulses counts)

-- what is done at a fault is that of a fault
is_of_fault-on_fault : (policy : Policy) (watch : Watch) (tick : ℕ) → is_of_fault (on_fault policy watch tick).1 ≡ true
is_of_fault-on_fault policy watch tick = at (gives_up policy (next_fault policy.calm watch.fault tick).number watch.spares watch.generation)
  where
    of_fault : Watch × Action → Type 0
    of_fault made = is_of_fault made.1 ≡ true

    at : (b : Bool) → of_fault
        (if b
        then (record watch { fault = Some (next_fault policy.calm watch.fault tick); phase = GivenUp }, GiveUp)
        else (record watch { fault = Some (next_fault policy.calm watch.fault tick); phase = Waiting (restart_tick policy (next_fault policy.calm watch.fault tick)) }, WaitUntil (restart_tick policy (next_fault policy.calm watch.fault tick))))
    at true = refl
    at false = refl

-- a tick of a running driver, by its phase
fault_at_tick : (policy : Policy) (watch : Watch) (phase : Phase) (tick : ℕ) (pulse : ℕ × ℕ) (pulses : List (ℕ × ℕ)) → 0 < policy.misses → is_running phase ≡ true
    → PhaseCounts pulses phase → is_of_fault (on_tick policy watch phase tick pulse).1 ≡ (misses_in (pulse ∷ pulses) == policy.misses)
fault_at_tick policy watch (Running last missed) tick pulse pulses some runs counts =
    at (is_same_pulse pulse last) (missed + 1 == policy.misses) refl refl
    ∙ ap (λ (n : ℕ). n == policy.misses) (sym (misses_in-next pulses last pulse missed (is_same_pulse pulse last) counts refl))
  where
    done : Watch × Action → Bool
    done made = is_of_fault made.1

    at : (same enough : Bool) → is_same_pulse pulse last ≡ same → (missed + 1 == policy.misses) ≡ enough
        → done (if same
        then (if enough then on_fault policy watch tick else (record watch { phase = Running pulse (missed + 1) }, Nothing))
        else (record watch { phase = Running pulse 0 }, Nothing))
        ≡ ((if same then missed + 1 else 0) == policy.misses)
    at true true e f = is_of_fault-on_fault policy watch tick ∙ sym f
    at true false e f = sym f
    at false enough e f = grind (arith, nat_tests, some)
fault_at_tick policy watch (Waiting until) tick pulse pulses some runs counts = cc
fault_at_tick policy watch GivenUp tick pulse pulses some runs counts = cc

-- so it is after any events
pub tick_is_fault : TickIsFault
tick_is_fault policy drivers events tick pulse some runs =
    fault_at_tick policy (watch_after policy (new_watch drivers) events) (watch_after policy (new_watch drivers) events).phase tick pulse
    (pulses_after policy (new_watch drivers) events []) some runs (counted_after policy (new_watch drivers) events [] tt)
