-- The script of a driver's faults.
use Rattle.std.specs.Prelude.{ℕ, ◌+◌, Bool, true, false, if◌then◌else◌, ◌&&◌, ◌==◌, List, find, option_map, Option, Some, None}
use Rattle.media.specs.Contents.{MediaState}
use Rattle.bdev.specs.declared.Accept.{Accept}
use Rattle.bdev.specs.declared.Accept.TheVariants.{Taken, Busy, Old}
use Rattle.bdev.specs.declared.Step.{Step}
use Rattle.bdev.specs.DriverState.{DriverState}
use Rattle.modeldisk.specs.declared.sector_mover.mover.Mover.{Mover}
use Rattle.modeldisk.specs.declared.fault.Fault.{Fault}
use Rattle.modeldisk.specs.declared.fault.FaultKind.{FaultKind}
use Rattle.modeldisk.specs.declared.scripted.Inner.{Inner}
use Rattle.modeldisk.specs.declared.scripted.Inner.TheVariants.{Ram, Model}
use Rattle.modeldisk.specs.declared.scripted.ScriptedDriver.{ScriptedDriver}
use Rattle.modeldisk.specs.Mover.{left_of, state_of}
use Rattle.modeldisk.specs.Order.{arm_after}
use Rattle.modeldisk.specs.Faults.{StepsBy}

-- the state of the inner driver
abbrev pub inner_state : Inner → DriverState
inner_state (Ram d) = state_of d.mover
inner_state (Model d) = state_of d.mover

-- the mover of a scripted driver
abbrev pub mover_of : ScriptedDriver → Mover
mover_of d = d.mover

-- its state
abbrev pub scripted_state : ScriptedDriver → DriverState
scripted_state d = state_of d.mover

-- the inner driver has an arm
abbrev pub has_arm : Inner → Bool
has_arm (Ram d) = false
has_arm (Model d) = true

-- where the arm of the inner driver stands
abbrev pub inner_arm : Inner → ℕ
inner_arm (Ram d) = d.mover.arm
inner_arm (Model d) = d.mover.arm

-- where the arm stands
abbrev pub scripted_arm : ScriptedDriver → ℕ
scripted_arm d = d.mover.arm

-- where the sweep over a request that is taken begins
abbrev pub sweep_start : ScriptedDriver → ℕ
sweep_start d = if d.sweeps then d.mover.arm else 0

-- a script: its faults, how many requests were taken, and whether the inner driver has an arm
pub record Script : Type 0 where
  pub faults : List Fault
  pub taken : ℕ
  pub sweeps : Bool

-- the script of a driver
abbrev pub script_of : ScriptedDriver → Script
script_of d = record { faults = d.faults.items; taken = d.taken; sweeps = d.sweeps }

-- a request that is taken counts
abbrev pub counted : Accept → Script → Script
counted Taken s = record s { taken = s.taken + 1 }
counted Busy s = s
counted Old s = s

-- the first fault of the script for this request, with so many of its sectors moved
abbrev pub due_in : List Fault → ℕ → ℕ → Option FaultKind
due_in faults request done = option_map (λ (f : Fault). f.kind) (find (λ (f : Fault). (f.request == request) && (f.after == done)) faults)

-- the fault of the script for the request taken last, once so many of its sectors were moved
abbrev pub due_at : Script → ℕ → Option FaultKind
due_at s done = due_in s.faults s.taken done

-- the fault that is due at the next step, where a request is in work
abbrev pub due_of : ScriptedDriver → Option FaultKind
due_of d = due_at (script_of d) d.mover.done

-- the arm after a step with this fault due, or none: a fault moves no sector
abbrev pub arm_with : Option FaultKind → Mover → MediaState → ℕ → ℕ
arm_with None d m g = arm_after (left_of d) m g d.arm
arm_with (Some kind) d m g = d.arm

-- a step of a driver with this fault due, or none; nothing is due while no request is in work
abbrev pub FollowsScript : Option FaultKind → Mover → MediaState → ℕ → Step → Mover → Type 0
FollowsScript due b m g step a = StepsBy b.busy due b m g step a
