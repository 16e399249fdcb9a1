-- What the reincarnation server knows, and what it does at each event.
use Rattle.std.specs.Prelude.{◌≡◌, ℕ, ◌+◌, ◌-◌, List, [], ◌∷◌, Bool, ◌&&◌, ◌==◌, nat_le, if◌then◌else◌, Option, Some, None}
use Rattle.message.specs.declared.endpoint.Endpoint.{Endpoint}
use Rattle.reincarnate.specs.declared.policy.Policy.{Policy}
use Rattle.reincarnate.specs.declared.policy.Event.{Event}
use Rattle.reincarnate.specs.declared.policy.Event.TheVariants.{Exit, Tick, Complaint}
use Rattle.reincarnate.specs.Faults.{LastFault, next_fault, gives_up, restart_tick}

-- what is done at an event; the driver that is started is the next of the supply
pub data Action : Type 0 where
  Nothing : Action
  WaitUntil : (tick : ℕ) → Action
  Start : (endpoint : Endpoint) → Action
  GiveUp : Action

-- a driver runs, with the pulse at the last tick and the misses in a row; or a start is awaited; or the device was given up
pub data Phase : Type 0 where
  Running : (pulse : ℕ × ℕ) (missed : ℕ) → Phase
  Waiting : (until : ℕ) → Phase
  GivenUp : Phase

-- drivers left in the supply, the last generation, the last fault, and what goes on
pub record Watch : Type 0 where
  pub spares : ℕ
  pub generation : ℕ
  pub fault : Option LastFault
  pub phase : Phase

-- at first the start at tick 0 is awaited
abbrev pub new_watch : ℕ → Watch
new_watch drivers = record { spares = drivers; generation = 0; fault = None; phase = Waiting 0 }

-- after one more driver was handed in
abbrev pub with_spare : Watch → Watch
with_spare watch = record watch { spares = watch.spares + 1 }

-- the endpoint of the disk driver started g-th
abbrev pub driver : ℕ → Endpoint
driver g = record { slot = 1; generation = g }

-- the endpoint is that of the driver started last
abbrev pub is_last_started : Watch → Endpoint → Bool
is_last_started watch e = (e.slot == 1) && (e.generation == watch.generation)

-- a fault of the running driver gives the device up, or the next start is awaited
abbrev pub on_fault : Policy → Watch → ℕ → Watch × Action
on_fault policy watch tick =
    let fault : LastFault = next_fault policy.calm watch.fault tick in
    if gives_up policy fault.number watch.spares watch.generation
    then (record watch { fault = Some fault; phase = GivenUp }, GiveUp)
    else (record watch { fault = Some fault; phase = Waiting (restart_tick policy fault) }, WaitUntil (restart_tick policy fault))

-- a start: the next generation of the next driver; this tick's pulse is the one at the start
abbrev pub on_start : Watch → ℕ × ℕ → Watch × Action
on_start watch pulse =
    (record watch { spares = watch.spares - 1; generation = watch.generation + 1; phase = Running pulse 0 }, Start (driver (watch.generation + 1)))

-- both name the same generation and count
abbrev pub is_same_pulse : ℕ × ℕ → ℕ × ℕ → Bool
is_same_pulse p q = (p.0 == q.0) && (p.1 == q.1)

-- an exit or a complaint is a fault where it is of the running driver
abbrev pub on_report : Policy → Watch → Phase → Endpoint → ℕ → Watch × Action
on_report policy watch (Running pulse missed) e tick = if is_last_started watch e then on_fault policy watch tick else (watch, Nothing)
on_report policy watch _ e tick = (watch, Nothing)

-- a tick with the pulse of the one before is a miss; enough misses in a row are a fault; an awaited start comes when its tick has come
abbrev pub on_tick : Policy → Watch → Phase → ℕ → ℕ × ℕ → Watch × Action
on_tick policy watch (Running last missed) tick pulse =
    if is_same_pulse pulse last
    then (if missed + 1 == policy.misses
    then on_fault policy watch tick
    else (record watch { phase = Running pulse (missed + 1) }, Nothing))
    else (record watch { phase = Running pulse 0 }, Nothing)
on_tick policy watch (Waiting until) tick pulse = if nat_le until tick then on_start watch pulse else (watch, Nothing)
on_tick policy watch GivenUp tick pulse = (watch, Nothing)

-- what is known after an event, and what is done at it
abbrev pub on : Policy → Watch → Event → Watch × Action
on policy watch (Exit e tick) = on_report policy watch watch.phase e tick
on policy watch (Complaint e tick) = on_report policy watch watch.phase e tick
on policy watch (Tick tick pulse) = on_tick policy watch watch.phase tick pulse

-- what is known after these events, oldest first
abbrev pub watch_after : Policy → Watch → List Event → Watch
watch_after policy watch [] = watch
watch_after policy watch (event ∷ events) = watch_after policy (on policy watch event).0 events

-- what is done at each of these events
abbrev pub actions : Policy → Watch → List Event → List Action
actions policy watch [] = []
actions policy watch (event ∷ events) = (on policy watch event).1 ∷ actions policy (on policy watch event).0 events

-- one event of the reincarnation server does and remembers what it must
pub record OnKeeps (policy : Policy) (old : Watch) (event : Event) (action : Action) (new : Watch) : Type 0 where
  pub does : action ≡ (on policy old event).1
  pub knows : new ≡ (on policy old event).0
