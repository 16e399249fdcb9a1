-- What a reincarnation server met and did, and what the restart policy says of it: no state, only what happened.
use Rattle.std.specs.Prelude.{ℕ, ◌+◌, ◌-◌, List, [], ◌∷◌, ◌++◌, length, Bool, false, ◌&&◌, ◌==◌, nat_le, if◌then◌else◌}
use Rattle.message.specs.declared.endpoint.Endpoint.{Endpoint}
use Rattle.reincarnate.specs.declared.policy.Policy.{Policy}
use Rattle.reincarnate.specs.declared.policy.Event.{Event}
use Rattle.reincarnate.specs.declared.policy.Event.TheVariants.{Exit, Tick, Complaint}
use Rattle.reincarnate.specs.Faults.{LastFault, next_fault, last_fault, gives_up, restart_tick}
use Rattle.reincarnate.specs.Watch.{Action, Nothing, WaitUntil, Start, GiveUp, driver}
use Rattle.reincarnate.specs.Laws.{is_of_fault, tick_of, misses_in, with_pulse}
use Rattle.reincarnate.specs.declared.Action.{Action as Answer}
use Rattle.reincarnate.specs.Supply.{action_of, handed_over}

-- one turn of a run: an event with what was answered, or a driver added to the supply
pub data Turn (D : Type 0) : Type 0 where
  Met : (event : Event) (answer : Answer D) → Turn D
  Added : (driver : D) → Turn D

-- all drivers that were handed in, in their order; turns stand newest first
abbrev pub handed_in : {D : Type 0} → List D → List (Turn D) → List D
handed_in drivers [] = drivers
handed_in drivers (Met event answer ∷ turns) = handed_in drivers turns
handed_in drivers (Added driver ∷ turns) = handed_in drivers turns ++ driver ∷ []

-- the drivers that were started, in their order
abbrev pub started : {D : Type 0} → List (Turn D) → List D
started [] = []
started (Met event answer ∷ turns) = started turns ++ handed_over answer
started (Added driver ∷ turns) = started turns

-- the last thing done, after this one
abbrev pub last_after : Action → Action → Action
last_after earlier Nothing = earlier
last_after earlier action = action

-- the last thing that was done: at first a start is awaited for tick 0
abbrev pub last_done : {D : Type 0} → List (Turn D) → Action
last_done [] = WaitUntil 0
last_done (Met event answer ∷ turns) = last_after (last_done turns) (action_of answer)
last_done (Added driver ∷ turns) = last_done turns

-- the ticks of the faults, after this event at which this was done
abbrev pub with_fault : Event → Action → List ℕ → List ℕ
with_fault event action earlier = if is_of_fault action then tick_of event ∷ earlier else earlier

-- the ticks of the faults, newest first
abbrev pub fault_ticks : {D : Type 0} → List (Turn D) → List ℕ
fault_ticks [] = []
fault_ticks (Met event answer ∷ turns) = with_fault event (action_of answer) (fault_ticks turns)
fault_ticks (Added driver ∷ turns) = fault_ticks turns

-- the pulses of the ticks since the last start, newest first; the first is that at the start
abbrev pub pulses : {D : Type 0} → List (Turn D) → List (ℕ × ℕ)
pulses [] = []
pulses (Met event answer ∷ turns) = with_pulse event (action_of answer) (pulses turns)
pulses (Added driver ∷ turns) = pulses turns

-- both are the same endpoint
abbrev pub is_same_endpoint : Endpoint → Endpoint → Bool
is_same_endpoint e f = (e.slot == f.slot) && (e.generation == f.generation)

-- while a driver runs, its exit, a complaint of it and the last of so many misses in a row are faults, and nothing else is
abbrev pub is_fault : Policy → Action → List (ℕ × ℕ) → Event → Bool
is_fault policy (Start running) earlier (Exit e tick) = is_same_endpoint e running
is_fault policy (Start running) earlier (Complaint e tick) = is_same_endpoint e running
is_fault policy (Start running) earlier (Tick tick pulse) = misses_in (pulse ∷ earlier) == policy.misses
is_fault policy _ earlier event = false

-- an awaited start comes at the first tick not before its own
abbrev pub is_start : Action → Event → Bool
is_start (WaitUntil until) (Tick tick pulse) = nat_le until tick
is_start _ event = false

-- what a fault leads to, so many drivers being left and so many started
abbrev pub due_at_fault : Policy → ℕ → ℕ → LastFault → Action
due_at_fault policy left generation fault =
    if gives_up policy fault.number left generation then GiveUp else WaitUntil (restart_tick policy fault)

-- what is due at an event, by what was last done, the faults' ticks, the pulses, and how many drivers were started and handed in
abbrev pub due_by : Policy → Action → List ℕ → List (ℕ × ℕ) → ℕ → ℕ → Event → Action
due_by policy last ticks earlier starts drivers event =
    if is_fault policy last earlier event
    then due_at_fault policy (drivers - starts) starts (next_fault policy.calm (last_fault policy.calm ticks) (tick_of event))
    else (if is_start last event then Start (driver (starts + 1)) else Nothing)

-- what is due at an event after these turns
abbrev pub due : {D : Type 0} → Policy → List D → List (Turn D) → Event → Action
due policy drivers turns event =
    due_by policy (last_done turns) (fault_ticks turns) (pulses turns) (length (started turns)) (length (handed_in drivers turns)) event

-- what was due at each event
abbrev pub all_due : {D : Type 0} → Policy → List D → List (Turn D) → List Action
all_due policy drivers [] = []
all_due policy drivers (Met event answer ∷ turns) = due policy drivers turns event ∷ all_due policy drivers turns
all_due policy drivers (Added driver ∷ turns) = all_due policy drivers turns

-- what was done at each event
abbrev pub all_done : {D : Type 0} → List (Turn D) → List Action
all_done [] = []
all_done (Met event answer ∷ turns) = action_of answer ∷ all_done turns
all_done (Added driver ∷ turns) = all_done turns
