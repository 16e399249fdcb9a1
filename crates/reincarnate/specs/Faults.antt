-- Faults of the running driver: their numbers, the start after each, and giving up.
use Rattle.std.specs.Prelude.{ℕ, ◌+◌, ◌-◌, ◌^◌, min, List, [], ◌∷◌, Bool, ◌||◌, ◌==◌, nat_lt, nat_le, if◌then◌else◌, Option, Some, None}
use Rattle.reincarnate.specs.declared.policy.Policy.{Policy}

-- the last fault: its number and its tick
pub record LastFault : Type 0 where
  pub number : ℕ
  pub tick : ℕ

-- the number of a fault at this tick: 1 where there was none before it, or none for `calm` ticks; else one more than the earlier one's
abbrev pub fault_number : ℕ → Option LastFault → ℕ → ℕ
fault_number calm None tick = 1
fault_number calm (Some earlier) tick = if nat_le (earlier.tick + calm) tick then 1 else earlier.number + 1

-- a fault at this tick, numbered
abbrev pub next_fault : ℕ → Option LastFault → ℕ → LastFault
next_fault calm earlier tick = record { number = fault_number calm earlier tick; tick = tick }

-- the last of the faults at these ticks (newest first)
abbrev pub last_fault : ℕ → List ℕ → Option LastFault
last_fault calm [] = None
last_fault calm (tick ∷ ticks) = Some (next_fault calm (last_fault calm ticks) tick)

-- a fault with this number gives the device up: it is one too many, or no spare or generation is left
abbrev pub gives_up : Policy → ℕ → ℕ → ℕ → Bool
gives_up policy number spares generation =
    nat_lt policy.max_faults number || (spares == 0) || nat_le (2 ^ 32) (generation + 1)

-- else the next driver is started at the first tick not before this one: twice as long after each fault, up to the cap
abbrev pub restart_tick : Policy → LastFault → ℕ
restart_tick policy fault = fault.tick + min (2 ^ (fault.number - 1)) policy.cap
