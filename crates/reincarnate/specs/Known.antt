-- What is remembered between events, against what the restart policy knows.
use Rattle.std.specs.Prelude.{◌≡◌, ℕ, ◌+◌, ◌-◌, ◌^◌, ◌<◌, ◌≤◌, List, slice_index, Bool, true, false, Option, Some, None}
use Rattle.std.specs.Option.{option_map}
use Rattle.reincarnate.specs.declared.policy.Policy.{Policy}
use Rattle.reincarnate.specs.Policy.{IsAllowed}
use Rattle.reincarnate.specs.Faults.{LastFault}
use Rattle.reincarnate.specs.Watch as restart
use Rattle.reincarnate.specs.declared.watch.Fault.{Fault}
use Rattle.reincarnate.specs.declared.watch.Phase.{Phase}
use Rattle.reincarnate.specs.declared.watch.Phase.TheVariants.{Waiting, Running, GivenUp}
use Rattle.reincarnate.specs.declared.watch.Decision.{Decision}
use Rattle.reincarnate.specs.declared.watch.Decision.TheVariants as decision

-- the policy, and all that it knows but for the number of drivers left
pub record Known : Type 0 where
  pub policy : Policy
  pub generation : ℕ
  pub fault : Option LastFault
  pub phase : restart.Phase

-- at first nothing was started, and the first start is awaited
abbrev pub known_at_first : Policy → Known
known_at_first rules = record { policy = rules; generation = 0; fault = None; phase = restart.Waiting 0 }

-- with so many drivers left, this is what the policy knows
abbrev pub watch_with : Known → ℕ → restart.Watch
watch_with known spares = record { spares = spares; generation = known.generation; fault = known.fault; phase = known.phase }

-- a fault, as the policy sees it
abbrev pub fault_of : Fault → LastFault
fault_of fault = record { number = fault.number; tick = fault.tick }

-- what goes on, as the policy sees it
abbrev pub phase_of : Phase → restart.Phase
phase_of (Waiting until) = restart.Waiting until
phase_of (Running endpoint pulse missed) = restart.Running pulse missed
phase_of GivenUp = restart.GivenUp

-- the generation is that of the last start of the disk driver's slot
abbrev pub known_of : Policy → List ℕ → Option Fault → Phase → Known
known_of rules slots fault phase = record { policy = rules; generation = slice_index slots 1; fault = option_map fault_of fault; phase = phase_of phase }

-- where a start is awaited, a driver is left for it
abbrev pub HasSpare : restart.Phase → ℕ → Type 0
HasSpare (restart.Waiting until) spares = 0 < spares
HasSpare (restart.Running pulse missed) spares = Unit {0}
HasSpare restart.GivenUp spares = Unit {0}

-- a start is awaited
abbrev pub is_waiting : restart.Phase → Bool
is_waiting (restart.Waiting until) = true
is_waiting _ = false

-- a decision, as the policy sees it
abbrev pub decision_of : Decision → restart.Action
decision_of decision.Nothing = restart.Nothing
decision_of (decision.WaitUntil tick) = restart.WaitUntil tick
decision_of (decision.Start endpoint) = restart.Start endpoint
decision_of decision.GiveUp = restart.GiveUp

-- the drivers left after a decision
abbrev pub left_after : Decision → ℕ → ℕ
left_after (decision.Start endpoint) spares = spares - 1
left_after _ spares = spares

-- the last fault let a next start be awaited, and its tick is one that is accepted
abbrev pub IsBelowLimit : Policy → Option Fault → Type 0
IsBelowLimit rules None = Unit {0}
IsBelowLimit rules (Some fault) = (fault.number ≤ rules.max_faults) × (fault.tick < 2 ^ 48)

-- a generation is left where a start is awaited; the driver that runs was started last, and hasn't missed too many heartbeats
abbrev pub PhaseIsSound : Policy → ℕ → Option Fault → Phase → Type 0
PhaseIsSound rules generation fault (Waiting until) = IsBelowLimit rules fault × (generation + 1 < 2 ^ 32)
PhaseIsSound rules generation fault (Running endpoint pulse missed) =
    IsBelowLimit rules fault × (endpoint ≡ restart.driver generation) × (missed < rules.misses)
PhaseIsSound rules generation fault GivenUp = Unit {0}

-- what always holds of what is remembered
pub record IsSound (rules : Policy) (slots : List ℕ) (fault : Option Fault) (phase : Phase) : Type 0 where
  pub allowed : IsAllowed rules
  pub phase_sound : PhaseIsSound rules (slice_index slots 1) fault phase

-- this decision, and what is remembered after it, are what the policy makes of an event, with so many drivers left before it
pub record Makes (made : restart.Watch × restart.Action) (rules : Policy) (spares : ℕ) (decided : Decision) (new : Known) : Type 0 where
  pub policy : new.policy ≡ rules
  pub watch : watch_with new (left_after decided spares) ≡ made.0
  pub action : decision_of decided ≡ made.1
  pub spare : HasSpare new.phase (left_after decided spares)
