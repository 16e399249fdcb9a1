-- The watch knows what the list of faults says.
use Rattle.std.specs.Prelude.{◌≡◌, ℕ, ◌+◌, ◌<◌, List, [], ◌∷◌, Bool, true, false, ◌==◌, nat_le, if◌then◌else◌, Option, Some, None, refl}
use Rattle.std.proofs.Common.{arith, ap, subst}
use Rattle.std.proofs.lemmas.Bool.Decides.{nat_tests}
use Rattle.message.specs.declared.endpoint.Endpoint.{Endpoint}
use Rattle.reincarnate.specs.declared.policy.Policy.{Policy}
use Rattle.reincarnate.specs.declared.policy.Event.{Event}
use Rattle.reincarnate.specs.declared.policy.Event.TheVariants.{Exit, Tick, Complaint}
use Rattle.reincarnate.specs.Faults.{LastFault, next_fault, last_fault, gives_up, restart_tick}
use Rattle.reincarnate.specs.Watch.{Action, Nothing, WaitUntil, GiveUp, Phase, Running, Waiting, GivenUp, Watch, new_watch, is_last_started, is_same_pulse, on, on_fault, on_report, on_start, on_tick, watch_after}
use Rattle.reincarnate.specs.Laws.{is_of_fault, tick_of, fault_ticks, FollowsFaults, PhaseFollows, WatchFollowsFaults}

-- what holds after an event that did this, if it held before
abbrev Kept : Policy → ℕ → List ℕ → ℕ → Watch × Action → Type 0
Kept policy drivers ticks tick made = FollowsFaults policy drivers (if is_of_fault made.1 then tick ∷ ticks else ticks) made.0

-- where a start is awaited, a driver is left
left_while_waiting : (policy : Policy) (watch : Watch) (until : ℕ) (fault : Option LastFault) → PhaseFollows policy watch fault (Waiting until) → 0 < watch.spares
left_while_waiting policy watch until None follows = follows.1
left_while_waiting policy watch until (Some fault) follows = grind (arith, nat_tests, follows.1)

-- at a fault it holds again, whether the device is given up or a start is awaited
kept_at_fault : (policy : Policy) (drivers : ℕ) (ticks : List ℕ) (watch : Watch) (tick : ℕ) → FollowsFaults policy drivers ticks watch → Kept policy drivers ticks tick (on_fault policy watch tick)
kept_at_fault policy drivers ticks watch tick follows =
    at (gives_up policy (next_fault policy.calm watch.fault tick).number watch.spares watch.generation) refl
  where
    numbered : Some (next_fault policy.calm watch.fault tick) ≡ last_fault policy.calm (tick ∷ ticks)
    numbered = ap (λ f. Some (next_fault policy.calm f tick)) follows.last

    at : (b : Bool) → gives_up policy (next_fault policy.calm watch.fault tick).number watch.spares watch.generation ≡ b
        → Kept policy drivers ticks tick
        (if b
        then (record watch { fault = Some (next_fault policy.calm watch.fault tick); phase = GivenUp }, GiveUp)
        else (record watch { fault = Some (next_fault policy.calm watch.fault tick); phase = Waiting (restart_tick policy (next_fault policy.calm watch.fault tick)) }, WaitUntil (restart_tick policy (next_fault policy.calm watch.fault tick))))
    at true e =
        let P : Option LastFault → Type 0 = λ f. PhaseFollows policy watch f GivenUp in
        record { last = numbered; phase = subst P numbered e; supply = follows.supply }
    at false e =
        let P : Option LastFault → Type 0 = λ f. PhaseFollows policy watch f (Waiting (restart_tick policy (next_fault policy.calm watch.fault tick))) in
        record { last = numbered; phase = subst P numbered (refl, e); supply = follows.supply }

-- after an exit or a complaint
kept_at_report : (policy : Policy) (drivers : ℕ) (ticks : List ℕ) (watch : Watch) (phase : Phase) (e : Endpoint) (tick : ℕ) → FollowsFaults policy drivers ticks watch → Kept policy drivers ticks tick (on_report policy watch phase e tick)
kept_at_report policy drivers ticks watch (Running pulse missed) e tick follows = at (is_last_started watch e)
  where
    at : (b : Bool) → Kept policy drivers ticks tick (if b then on_fault policy watch tick else (watch, Nothing))
    at true = kept_at_fault policy drivers ticks watch tick follows
    at false = follows
kept_at_report policy drivers ticks watch (Waiting until) e tick follows = follows
kept_at_report policy drivers ticks watch GivenUp e tick follows = follows

-- after a tick
kept_at_tick : (policy : Policy) (drivers : ℕ) (ticks : List ℕ) (watch : Watch) (phase : Phase) (tick : ℕ) (pulse : ℕ × ℕ) → watch.phase ≡ phase → FollowsFaults policy drivers ticks watch → Kept policy drivers ticks tick (on_tick policy watch phase tick pulse)
kept_at_tick policy drivers ticks watch (Running last missed) tick pulse here follows = at (is_same_pulse pulse last) (missed + 1 == policy.misses)
  where
    at : (same enough : Bool) → Kept policy drivers ticks tick
        (if same
        then (if enough then on_fault policy watch tick else (record watch { phase = Running pulse (missed + 1) }, Nothing))
        else (record watch { phase = Running pulse 0 }, Nothing))
    at true true = kept_at_fault policy drivers ticks watch tick follows
    at true false = record { last = follows.last; phase = tt; supply = follows.supply }
    at false enough = record { last = follows.last; phase = tt; supply = follows.supply }
kept_at_tick policy drivers ticks watch (Waiting until) tick pulse here follows = at (nat_le until tick)
  where
    left : 0 < watch.spares
    left =
        let P : Phase → Type 0 = λ p. PhaseFollows policy watch (last_fault policy.calm ticks) p in
        left_while_waiting policy watch until (last_fault policy.calm ticks) (subst P here follows.phase)

    at : (b : Bool) → Kept policy drivers ticks tick (if b then on_start watch pulse else (watch, Nothing))
    at true = record { last = follows.last; phase = tt; supply = omega (arith, left, follows.supply) }
    at false = follows
kept_at_tick policy drivers ticks watch GivenUp tick pulse here follows = follows

-- after any event
kept_at : (policy : Policy) (drivers : ℕ) (ticks : List ℕ) (watch : Watch) (event : Event) → FollowsFaults policy drivers ticks watch → Kept policy drivers ticks (tick_of event) (on policy watch event)
kept_at policy drivers ticks watch (Exit e tick) follows = kept_at_report policy drivers ticks watch watch.phase e tick follows
kept_at policy drivers ticks watch (Tick tick pulse) follows = kept_at_tick policy drivers ticks watch watch.phase tick pulse refl follows
kept_at policy drivers ticks watch (Complaint e tick) follows = kept_at_report policy drivers ticks watch watch.phase e tick follows

-- after any events
kept_after : (policy : Policy) (drivers : ℕ) (ticks : List ℕ) (watch : Watch) (events : List Event) → FollowsFaults policy drivers ticks watch
    → FollowsFaults policy drivers (fault_ticks policy watch events ticks) (watch_after policy watch events)
kept_after policy drivers ticks watch [] follows = follows
kept_after policy drivers ticks watch (event ∷ events) follows =
    kept_after policy drivers (if is_of_fault (on policy watch event).1 then tick_of event ∷ ticks else ticks) (on policy watch event).0 events (kept_at policy drivers ticks watch event follows)

-- from a new watch on
pub watch_follows_faults : WatchFollowsFaults
watch_follows_faults policy drivers events some =
    kept_after policy drivers [] (new_watch drivers) events (record { last = refl; phase = (refl, some); supply = omega arith })
