-- A step by the policy follows it over the whole run.
use Rattle.std.specs.Prelude.{◌≡◌, ◌≢◌, ◌<◌, ℕ, ◌+◌, ◌-◌, List, [], ◌∷◌, ◌++◌, length, Bool, true, false, ◌==◌, nat_le, if◌then◌else◌, Some, refl}
use Rattle.std.specs.List.{flat_map}
use Rattle.std.proofs.Common.{arith, append_assoc, length-append, ap, sym, subst, ◌∙◌}
use Rattle.std.proofs.lemmas.Bool.Decides.{nat_tests}
use Rattle.std.proofs.lemmas.List.{append-nil}
use Rattle.message.specs.declared.endpoint.Endpoint.{Endpoint}
use Rattle.reincarnate.specs.declared.policy.Policy.{Policy}
use Rattle.reincarnate.specs.declared.policy.Event.{Event}
use Rattle.reincarnate.specs.declared.policy.Event.TheVariants.{Exit, Tick, Complaint}
use Rattle.reincarnate.specs.Policy.{IsAllowed}
use Rattle.reincarnate.specs.Faults.{next_fault, last_fault, gives_up, restart_tick}
use Rattle.reincarnate.specs.Watch.{Action, Nothing, WaitUntil, Start, GiveUp, Phase, Running, Waiting, GivenUp, Watch, driver, is_last_started, is_same_pulse, on, on_fault, on_report, on_start, on_tick}
use Rattle.reincarnate.specs.Laws.{tick_of, misses_in, with_pulse}
use Rattle.reincarnate.specs.declared.Action.{Action as Answer}
use Rattle.reincarnate.specs.declared.Action.TheVariants as answers
use Rattle.reincarnate.specs.Known.{HasSpare}
use Rattle.reincarnate.specs.Supply.{ReincarnationState, Decides, action_of, handed_over, new_state, with_driver}
use Rattle.reincarnate.specs.Runs.{Turn, Met, Added, handed_in, started, last_done, fault_ticks, pulses, last_after, with_fault, is_fault, is_start, is_same_endpoint, due_at_fault, due_by, due, all_due, all_done}
use Rattle.reincarnate.specs.Follows.{Counts, PhaseIs, Knows, Follows, IsPolicyRun, EveryListIsDecided}

-- how many drivers were started, after this
abbrev starts_after : Action → ℕ → ℕ
starts_after (Start e) starts = starts + 1
starts_after _ starts = starts

-- what holds after an event of which this was made: that was due, and what is known is what happened
record Stepped (policy : Policy) (last : Action) (ticks : List ℕ) (earlier : List (ℕ × ℕ)) (starts drivers : ℕ) (event : Event) (made : Watch × Action) : Type 0 where
  due : made.1 ≡ due_by policy last ticks earlier starts drivers event
  knows : Knows policy (last_after last made.1) (with_fault event made.1 ticks) (with_pulse event made.1 earlier) (starts_after made.1 starts) drivers made.0

-- what a fault leads to is told by what is known as by what happened
due_as_known : (policy : Policy) (watch : Watch) (last : Action) (ticks : List ℕ) (earlier : List (ℕ × ℕ)) (starts drivers tick : ℕ)
    → Knows policy last ticks earlier starts drivers watch
    → due_at_fault policy (drivers - starts) starts (next_fault policy.calm (last_fault policy.calm ticks) tick)
    ≡ due_at_fault policy watch.spares watch.generation (next_fault policy.calm watch.fault tick)
due_as_known policy watch last ticks earlier starts drivers tick knows =
    let left : drivers - starts ≡ watch.spares = omega (arith, knows.spares) in
    rw (left, knows.fault, knows.generation) refl

-- at a fault
stepped_at_fault : (policy : Policy) (watch : Watch) (last : Action) (ticks : List ℕ) (earlier : List (ℕ × ℕ)) (starts drivers : ℕ) (event : Event)
    → Knows policy last ticks earlier starts drivers watch → is_fault policy last earlier event ≡ true
    → Stepped policy last ticks earlier starts drivers event (on_fault policy watch (tick_of event))
stepped_at_fault policy watch last ticks earlier starts drivers event knows is =
    at (gives_up policy (next_fault policy.calm watch.fault (tick_of event)).number watch.spares watch.generation) refl
  where
    numbered : Some (next_fault policy.calm watch.fault (tick_of event)) ≡ last_fault policy.calm (tick_of event ∷ ticks)
    numbered = ap (λ f. Some (next_fault policy.calm f (tick_of event))) knows.fault

    due : due_by policy last ticks earlier starts drivers event ≡ due_at_fault policy watch.spares watch.generation (next_fault policy.calm watch.fault (tick_of event))
    due =
        ap (λ (b : Bool). if b
        then due_at_fault policy (drivers - starts) starts (next_fault policy.calm (last_fault policy.calm ticks) (tick_of event))
        else (if is_start last event then Start (driver (starts + 1)) else Nothing)) is
        ∙ due_as_known policy watch last ticks earlier starts drivers (tick_of event) knows

    at : (b : Bool) → gives_up policy (next_fault policy.calm watch.fault (tick_of event)).number watch.spares watch.generation ≡ b
        → Stepped policy last ticks earlier starts drivers event
        (if b
        then (record watch { fault = Some (next_fault policy.calm watch.fault (tick_of event)); phase = GivenUp }, GiveUp)
        else (record watch { fault = Some (next_fault policy.calm watch.fault (tick_of event)); phase = Waiting (restart_tick policy (next_fault policy.calm watch.fault (tick_of event))) }, WaitUntil (restart_tick policy (next_fault policy.calm watch.fault (tick_of event)))))
    at true e = record {
      due = sym (due ∙ ap (λ (b : Bool). if b then GiveUp else WaitUntil (restart_tick policy (next_fault policy.calm watch.fault (tick_of event)))) e);
      knows = record { generation = knows.generation; spares = knows.spares; fault = numbered; phase = refl; spare = tt };
    }
    at false e = record {
      due = sym (due ∙ ap (λ (b : Bool). if b then GiveUp else WaitUntil (restart_tick policy (next_fault policy.calm watch.fault (tick_of event)))) e);
      knows = record { generation = knows.generation; spares = knows.spares; fault = numbered; phase = refl; spare = grind (arith, nat_tests, e) };
    }

-- an event at which nothing is due and nothing changes, while no driver runs or its count of misses stays
stepped_by_nothing : (policy : Policy) (watch : Watch) (last : Action) (ticks : List ℕ) (earlier : List (ℕ × ℕ)) (starts drivers : ℕ) (event : Event)
    → Knows policy last ticks earlier starts drivers watch → is_fault policy last earlier event ≡ false → is_start last event ≡ false
    → PhaseIs last (with_pulse event Nothing earlier) starts watch.phase
    → Stepped policy last ticks earlier starts drivers event (watch, Nothing)
stepped_by_nothing policy watch last ticks earlier starts drivers event knows no_fault no_start phase = record {
  due = rw (no_fault, no_start) refl;
  knows = record { generation = knows.generation; spares = knows.spares; fault = knows.fault; phase = phase; spare = knows.spare };
}

-- an exit or a complaint of this endpoint: no tick
record IsReport (event : Event) (about : Endpoint) : Type 0 where
  same_pulses : (earlier : List (ℕ × ℕ)) → with_pulse event Nothing earlier ≡ earlier
  no_start : (last : Action) → is_start last event ≡ false
  of_running : (policy : Policy) (running : Endpoint) (earlier : List (ℕ × ℕ)) → is_fault policy (Start running) earlier event ≡ is_same_endpoint about running
  of_waiting : (policy : Policy) (until : ℕ) (earlier : List (ℕ × ℕ)) → is_fault policy (WaitUntil until) earlier event ≡ false
  of_given_up : (policy : Policy) (earlier : List (ℕ × ℕ)) → is_fault policy GiveUp earlier event ≡ false

-- the driver that runs was started last
fault_of_running : (policy : Policy) (watch : Watch) (last : Action) (earlier : List (ℕ × ℕ)) (starts : ℕ) (event : Event) (about : Endpoint)
    → IsReport event about → last ≡ Start (driver starts) → watch.generation ≡ starts → is_fault policy last earlier event ≡ is_last_started watch about
fault_of_running policy watch last earlier starts event about report runs same =
    ap (λ l. is_fault policy l earlier event) runs ∙ (report.of_running policy (driver starts) earlier
    ∙ ap (λ n. is_same_endpoint about (driver n)) (sym same))

-- at an exit or a complaint
stepped_at_report : (policy : Policy) (watch : Watch) (phase : Phase) (last : Action) (ticks : List ℕ) (earlier : List (ℕ × ℕ)) (starts drivers : ℕ) (event : Event) (about : Endpoint)
    → IsReport event about → Knows policy last ticks earlier starts drivers watch → PhaseIs last earlier starts phase
    → Stepped policy last ticks earlier starts drivers event (on_report policy watch phase about (tick_of event))
stepped_at_report policy watch phase last ticks earlier starts drivers event about report knows = by phase
  where
    nothing : is_fault policy last earlier event ≡ false → Stepped policy last ticks earlier starts drivers event (watch, Nothing)
    nothing is = stepped_by_nothing policy watch last ticks earlier starts drivers event knows is (report.no_start last) (rw (report.same_pulses earlier) knows.phase)

    at : (b : Bool) → is_fault policy last earlier event ≡ b → Stepped policy last ticks earlier starts drivers event (if b then on_fault policy watch (tick_of event) else (watch, Nothing))
    at true is = stepped_at_fault policy watch last ticks earlier starts drivers event knows is
    at false is = nothing is

    by : (p : Phase) → PhaseIs last earlier starts p → Stepped policy last ticks earlier starts drivers event (on_report policy watch p about (tick_of event))
    by (Running pulse missed) fits =
        at (is_last_started watch about) (fault_of_running policy watch last earlier starts event about report fits.0 knows.generation)
    by (Waiting until) fits = nothing (ap (λ l. is_fault policy l earlier event) fits ∙ report.of_waiting policy until earlier)
    by GivenUp fits = nothing (ap (λ l. is_fault policy l earlier event) fits ∙ report.of_given_up policy earlier)

-- the misses in a row, after one tick more
misses_in-next : (earlier : List (ℕ × ℕ)) (last pulse : ℕ × ℕ) (missed : ℕ) → Counts earlier last missed
    → misses_in (pulse ∷ earlier) ≡ (if is_same_pulse pulse last then missed + 1 else 0)
misses_in-next [] last pulse missed counts = absurd counts
misses_in-next (before ∷ earlier) last pulse missed counts =
    ap (λ (n : ℕ). if is_same_pulse pulse before then n + 1 else 0) (sym counts.1) ∙ ap (λ (p : ℕ × ℕ). if is_same_pulse pulse p then missed + 1 else 0) (sym counts.0)

-- at a tick at which a driver runs
stepped_while_running : (policy : Policy) (watch : Watch) (last_pulse : ℕ × ℕ) (missed : ℕ) (last : Action) (ticks : List ℕ) (earlier : List (ℕ × ℕ)) (starts drivers tick : ℕ) (pulse : ℕ × ℕ)
    → 0 < policy.misses → Knows policy last ticks earlier starts drivers watch → last ≡ Start (driver starts) → Counts earlier last_pulse missed
    → Stepped policy last ticks earlier starts drivers (Tick tick pulse) (on_tick policy watch (Running last_pulse missed) tick pulse)
stepped_while_running policy watch last_pulse missed last ticks earlier starts drivers tick pulse some knows runs counts =
    at (is_same_pulse pulse last_pulse) (missed + 1 == policy.misses) refl refl
  where
    is : is_fault policy last earlier (Tick tick pulse) ≡ (misses_in (pulse ∷ earlier) == policy.misses)
    is = ap (λ l. is_fault policy l earlier (Tick tick pulse)) runs

    counted : (same : Bool) → is_same_pulse pulse last_pulse ≡ same → misses_in (pulse ∷ earlier) ≡ (if same then missed + 1 else 0)
    counted same e = misses_in-next earlier last_pulse pulse missed counts ∙ ap (λ (b : Bool). if b then missed + 1 else 0) e

    goes_on : (n : ℕ) → misses_in (pulse ∷ earlier) ≡ n → (n == policy.misses) ≡ false
        → Stepped policy last ticks earlier starts drivers (Tick tick pulse) (record watch { phase = Running pulse n }, Nothing)
    goes_on n e f = record {
      due = rw (is ∙ (ap (λ m. m == policy.misses) e ∙ f), runs) refl;
      knows = record { generation = knows.generation; spares = knows.spares; fault = knows.fault; phase = (runs, (refl, sym e)); spare = tt };
    }

    at : (same enough : Bool) → is_same_pulse pulse last_pulse ≡ same → (missed + 1 == policy.misses) ≡ enough
        → Stepped policy last ticks earlier starts drivers (Tick tick pulse)
        (if same
        then (if enough then on_fault policy watch tick else (record watch { phase = Running pulse (missed + 1) }, Nothing))
        else (record watch { phase = Running pulse 0 }, Nothing))
    at true true e f = stepped_at_fault policy watch last ticks earlier starts drivers (Tick tick pulse) knows (is ∙ (ap (λ m. m == policy.misses) (counted true e) ∙ f))
    at true false e f = goes_on (missed + 1) (counted true e) f
    at false enough e f = goes_on 0 (counted false e) (grind (arith, nat_tests, some))

-- at a tick at which a start is awaited
stepped_while_waiting : (policy : Policy) (watch : Watch) (until : ℕ) (last : Action) (ticks : List ℕ) (earlier : List (ℕ × ℕ)) (starts drivers tick : ℕ) (pulse : ℕ × ℕ)
    → Knows policy last ticks earlier starts drivers watch → watch.phase ≡ Waiting until → last ≡ WaitUntil until → 0 < watch.spares
    → Stepped policy last ticks earlier starts drivers (Tick tick pulse) (on_tick policy watch (Waiting until) tick pulse)
stepped_while_waiting policy watch until last ticks earlier starts drivers tick pulse knows here waits some = at (nat_le until tick) refl
  where
    at : (b : Bool) → nat_le until tick ≡ b → Stepped policy last ticks earlier starts drivers (Tick tick pulse) (if b then on_start watch pulse else (watch, Nothing))
    at true e = record {
      due = rw (waits, e, knows.generation) refl;
      knows = record { generation = ap (λ n. n + 1) knows.generation; spares = omega (arith, knows.spares, some); fault = knows.fault; phase = (ap (λ n. Start (driver (n + 1))) knows.generation, (refl, refl)); spare = tt };
    }
    at false e = record {
      due = rw (waits, e) refl;
      knows = record { generation = knows.generation; spares = knows.spares; fault = knows.fault; phase = rw here waits; spare = knows.spare };
    }

-- at a tick
stepped_at_tick : (policy : Policy) (watch : Watch) (phase : Phase) (last : Action) (ticks : List ℕ) (earlier : List (ℕ × ℕ)) (starts drivers tick : ℕ) (pulse : ℕ × ℕ)
    → 0 < policy.misses → Knows policy last ticks earlier starts drivers watch → watch.phase ≡ phase → PhaseIs last earlier starts phase → HasSpare phase watch.spares
    → Stepped policy last ticks earlier starts drivers (Tick tick pulse) (on_tick policy watch phase tick pulse)
stepped_at_tick policy watch (Running last_pulse missed) last ticks earlier starts drivers tick pulse some knows here fits spare =
    stepped_while_running policy watch last_pulse missed last ticks earlier starts drivers tick pulse some knows fits.0 fits.1
stepped_at_tick policy watch (Waiting until) last ticks earlier starts drivers tick pulse some knows here fits spare =
    stepped_while_waiting policy watch until last ticks earlier starts drivers tick pulse knows here fits spare
stepped_at_tick policy watch GivenUp last ticks earlier starts drivers tick pulse some knows here fits spare = record {
  due = rw fits refl;
  knows = record { generation = knows.generation; spares = knows.spares; fault = knows.fault; phase = rw here fits; spare = knows.spare };
}

-- an exit is a report
is_report-exit : (e : Endpoint) (tick : ℕ) → IsReport (Exit e tick) e
is_report-exit e tick = record {
  same_pulses = λ earlier. refl;
  no_start = elim [ Nothing ↦ refl | WaitUntil t ↦ refl | Start s ↦ refl | GiveUp ↦ refl ];
  of_running = λ policy running earlier. refl;
  of_waiting = λ policy until earlier. refl;
  of_given_up = λ policy earlier. refl;
}

-- so is a complaint
is_report-complaint : (e : Endpoint) (tick : ℕ) → IsReport (Complaint e tick) e
is_report-complaint e tick = record {
  same_pulses = λ earlier. refl;
  no_start = elim [ Nothing ↦ refl | WaitUntil t ↦ refl | Start s ↦ refl | GiveUp ↦ refl ];
  of_running = λ policy running earlier. refl;
  of_waiting = λ policy until earlier. refl;
  of_given_up = λ policy earlier. refl;
}

-- at any event
stepped : (policy : Policy) (watch : Watch) (last : Action) (ticks : List ℕ) (earlier : List (ℕ × ℕ)) (starts drivers : ℕ) (event : Event)
    → 0 < policy.misses → Knows policy last ticks earlier starts drivers watch → Stepped policy last ticks earlier starts drivers event (on policy watch event)
stepped policy watch last ticks earlier starts drivers (Exit e tick) some knows =
    stepped_at_report policy watch watch.phase last ticks earlier starts drivers (Exit e tick) e (is_report-exit e tick) knows knows.phase
stepped policy watch last ticks earlier starts drivers (Complaint e tick) some knows =
    stepped_at_report policy watch watch.phase last ticks earlier starts drivers (Complaint e tick) e (is_report-complaint e tick) knows knows.phase
stepped policy watch last ticks earlier starts drivers (Tick tick pulse) some knows =
    stepped_at_tick policy watch watch.phase last ticks earlier starts drivers tick pulse some knows refl knows.phase knows.spare

-- how many drivers were started, with those handed over now
length-started : {D : Type 0} (earlier : List D) (answer : Answer D) → length (earlier ++ handed_over answer) ≡ starts_after (action_of answer) (length earlier)
length-started earlier answers.Nothing = ap length (append-nil earlier)
length-started earlier (answers.WaitUntil tick) = ap length (append-nil earlier)
length-started earlier (answers.Start e driver) = length-append earlier (driver ∷ [])
length-started earlier answers.GiveUp = ap length (append-nil earlier)

-- under the same policy the same was due
follows_by : {D : Type 0} (drivers : List D) (turns : List (Turn D)) (policy : Policy) (event : Event) (answer : Answer D) (state : ReincarnationState D)
    → state.policy ≡ policy → IsAllowed policy → action_of answer ≡ due policy drivers turns event → all_done turns ≡ all_due policy drivers turns
    → handed_in drivers turns ≡ (started turns ++ handed_over answer) ++ state.supply
    → Knows policy (last_after (last_done turns) (action_of answer)) (with_fault event (action_of answer) (fault_ticks turns)) (with_pulse event (action_of answer) (pulses turns))
    (starts_after (action_of answer) (length (started turns))) (length (handed_in drivers turns)) state.watch
    → Follows drivers (Met event answer ∷ turns) state
follows_by drivers turns policy event answer state same allowed done before order knows = record {
  allowed = rw same allowed;
  answers =
      let P : Policy → Type 0 = λ p. all_done (Met event answer ∷ turns) ≡ all_due p drivers (Met event answer ∷ turns) in
      subst P (sym same) (ap (λ a. a ∷ all_done turns) done ∙ ap (λ l. due policy drivers turns event ∷ l) before);
  order = order;
  knows = rw (same, length-started (started turns) answer) knows;
}

-- a step by the policy, over a whole run
pub follows_on : {D : Type 0} (drivers : List D) (turns : List (Turn D)) (old new : ReincarnationState D) (event : Event) (answer : Answer D)
    → Decides old event answer new → Follows drivers turns old → Follows drivers (Met event answer ∷ turns) new
follows_on drivers turns old new event answer decides follows =
    follows_by drivers turns old.policy event answer new decides.policy follows.allowed (decides.keeps.does ∙ step.due) follows.answers
    (follows.order ∙ (ap (λ l. started turns ++ l) decides.supply ∙ sym (append_assoc (started turns) (handed_over answer) new.supply)))
    (rw (decides.keeps.does, decides.keeps.knows) step.knows)
  where
    step : Stepped old.policy (last_done turns) (fault_ticks turns) (pulses turns) (length (started turns)) (length (handed_in drivers turns)) event (on old.policy old.watch event)
    step = stepped old.policy old.watch (last_done turns) (fault_ticks turns) (pulses turns) (length (started turns)) (length (handed_in drivers turns)) event follows.allowed.some_misses follows.knows

-- a driver more is left for an awaited start
spare_more : (phase : Phase) (spares : ℕ) → HasSpare phase spares → HasSpare phase (spares + 1)
spare_more (Running pulse missed) spares spare = tt
spare_more (Waiting until) spares spare = omega arith
spare_more GivenUp spares spare = tt

-- a driver added to the supply, over a whole run
pub follows_added : {D : Type 0} (drivers : List D) (turns : List (Turn D)) (state : ReincarnationState D) (driver : D)
    → Follows drivers turns state → Follows drivers (Added driver ∷ turns) (with_driver state driver)
follows_added drivers turns state driver follows = record {
  allowed = follows.allowed;
  answers = follows.answers;
  order = ap (λ l. l ++ driver ∷ []) follows.order ∙ append_assoc (started turns) state.supply (driver ∷ []);
  knows = record {
    generation = follows.knows.generation;
    spares = rw (length-append (handed_in drivers turns) (driver ∷ [])) (omega (arith, follows.knows.spares));
    fault = follows.knows.fault;
    phase = follows.knows.phase;
    spare = spare_more state.watch.phase state.watch.spares follows.knows.spare;
  };
}

-- the first turn of an allowed policy over some drivers
pub follows_at_first : {D : Type 0} (policy : Policy) (drivers : List D) → IsAllowed policy → drivers ≢ [] → Follows drivers [] (new_state policy drivers)
follows_at_first policy [] allowed some = absurd (some refl)
follows_at_first policy (driver ∷ drivers) allowed some = record {
  allowed = allowed;
  answers = refl;
  order = refl;
  knows = record { generation = refl; spares = omega arith; fault = refl; phase = refl; spare = omega arith };
}

-- one event more, before a list of them
run_more : {D : Type 0} (old between new : ReincarnationState D) (event : Event) (answer : Answer D) (steps : List (Event × Answer D))
    → Decides old event answer between → IsPolicyRun between steps new → IsPolicyRun old ((event, answer) ∷ steps) new
run_more {D} old between new event answer steps decides run = record {
  policy = run.policy ∙ decides.policy;
  watch = rw (run.watch, decides.policy, decides.keeps.knows) refl;
  answers = rw (run.answers, decides.policy, decides.keeps.knows, decides.keeps.does) refl;
  supply = decides.supply ∙ (ap (λ l. handed_over answer ++ l) run.supply ∙ sym (append_assoc (handed_over answer) (flat_map (λ (s : Event × Answer D). handed_over s.1) steps) new.supply));
}

-- any list of events
pub every_list_is_decided : {D : Type 0} → EveryListIsDecided D
every_list_is_decided old new [] same = rw same (record { policy = refl; watch = refl; answers = refl; supply = refl })
every_list_is_decided old new (step ∷ steps) (between, decides, rest) = run_more old between new step.0 step.1 steps decides (every_list_is_decided between new steps rest)
