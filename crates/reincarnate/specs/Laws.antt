-- The watch against the plain list of faults.
use Rattle.std.specs.Prelude.{◌≡◌, ℕ, ◌+◌, ◌<◌, List, [], ◌∷◌, Bool, true, false, ◌==◌, if◌then◌else◌, Option, Some, None}
use Rattle.reincarnate.specs.declared.policy.Policy.{Policy}
use Rattle.reincarnate.specs.declared.policy.Event.{Event}
use Rattle.reincarnate.specs.declared.policy.Event.TheVariants.{Exit, Tick, Complaint}
use Rattle.reincarnate.specs.Faults.{LastFault, last_fault, gives_up, restart_tick}
use Rattle.reincarnate.specs.Watch.{Action, Nothing, WaitUntil, Start, GiveUp, Phase, Running, Waiting, GivenUp, Watch, new_watch, is_same_pulse, on, watch_after}

-- a wait or a giving up is what is done at a fault, and at nothing else
abbrev pub is_of_fault : Action → Bool
is_of_fault Nothing = false
is_of_fault (WaitUntil tick) = true
is_of_fault (Start e) = false
is_of_fault GiveUp = true

-- the tick at which an event comes
abbrev pub tick_of : Event → ℕ
tick_of (Exit e tick) = tick
tick_of (Tick tick pulse) = tick
tick_of (Complaint e tick) = tick

-- the ticks of the faults so far, newest first: those of these events (oldest first) before the earlier ones
abbrev pub fault_ticks : Policy → Watch → List Event → List ℕ → List ℕ
fault_ticks policy watch [] earlier = earlier
fault_ticks policy watch (event ∷ events) earlier =
    fault_ticks policy (on policy watch event).0 events (if is_of_fault (on policy watch event).1 then tick_of event ∷ earlier else earlier)

-- a start is awaited for the tick that the last fault gives, the first one for tick 0; the device is given up exactly where that fault gives it up
abbrev pub PhaseFollows : Policy → Watch → Option LastFault → Phase → Type 0
PhaseFollows policy watch fault (Running pulse missed) = Unit {0}
PhaseFollows policy watch None (Waiting until) = (until ≡ 0) × (0 < watch.spares)
PhaseFollows policy watch (Some fault) (Waiting until) =
    (until ≡ restart_tick policy fault) × (gives_up policy fault.number watch.spares watch.generation ≡ false)
PhaseFollows policy watch None GivenUp = ⊥
PhaseFollows policy watch (Some fault) GivenUp = gives_up policy fault.number watch.spares watch.generation ≡ true

-- what is known is what the ticks of the faults (newest first) and the size of the supply say
pub record FollowsFaults (policy : Policy) (drivers : ℕ) (ticks : List ℕ) (watch : Watch) : Type 0 where
  pub last : watch.fault ≡ last_fault policy.calm ticks
  pub phase : PhaseFollows policy watch (last_fault policy.calm ticks) watch.phase
  pub supply : watch.spares + watch.generation ≡ drivers

-- so it is after any events, from a new watch over a supply that isn't empty
abbrev pub WatchFollowsFaults : Type 0
WatchFollowsFaults =
    (policy : Policy) (drivers : ℕ) (events : List Event) → 0 < drivers
    → FollowsFaults policy drivers (fault_ticks policy (new_watch drivers) events []) (watch_after policy (new_watch drivers) events)

-- how many of the last ticks, newest first, had the pulse of the tick before them: the misses in a row
abbrev pub misses_in : List (ℕ × ℕ) → ℕ
misses_in [] = 0
misses_in (pulse ∷ []) = 0
misses_in (pulse ∷ before ∷ pulses) = if is_same_pulse pulse before then misses_in (before ∷ pulses) + 1 else 0

-- the pulses of the ticks since the last start, newest first, with this event; the first is that at the start
abbrev pub with_pulse : Event → Action → List (ℕ × ℕ) → List (ℕ × ℕ)
with_pulse (Tick tick pulse) (Start e) earlier = pulse ∷ []
with_pulse (Tick tick pulse) _ earlier = pulse ∷ earlier
with_pulse _ _ earlier = earlier

-- so it is after these events, oldest first
abbrev pub pulses_after : Policy → Watch → List Event → List (ℕ × ℕ) → List (ℕ × ℕ)
pulses_after policy watch [] earlier = earlier
pulses_after policy watch (event ∷ events) earlier =
    pulses_after policy (on policy watch event).0 events (with_pulse event (on policy watch event).1 earlier)

-- a driver runs
abbrev pub is_running : Phase → Bool
is_running (Running pulse missed) = true
is_running _ = false

-- a tick is a fault of the running driver exactly where it is the last of as many misses in a row as the policy has
abbrev pub TickIsFault : Type 0
TickIsFault =
    (policy : Policy) (drivers : ℕ) (events : List Event) (tick : ℕ) (pulse : ℕ × ℕ) → 0 < policy.misses
    → is_running (watch_after policy (new_watch drivers) events).phase ≡ true
    → is_of_fault (on policy (watch_after policy (new_watch drivers) events) (Tick tick pulse)).1
    ≡ (misses_in (pulse ∷ pulses_after policy (new_watch drivers) events []) == policy.misses)
