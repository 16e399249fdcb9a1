-- What the drivers show of their movers.
use Rattle.std.specs.Prelude.{ℕ, Bool, List, Result}
use Rattle.errno.specs.declared.Errno.{Errno}
use Rattle.media.specs.Table.{ranges_of}
use Rattle.bdev.specs.DriverState.{DriverState, Ranges}
use Rattle.modeldisk.specs.declared.ram.RamDriver.{RamDriver}
use Rattle.modeldisk.specs.declared.model.ModelDriver.{ModelDriver}
use Rattle.modeldisk.specs.Mover.{left_of, outcome_of, state_of}

-- the state of a RAM driver
abbrev pub ram_state : RamDriver → DriverState
ram_state d = state_of d.mover

-- its ranges
abbrev pub ram_ranges : RamDriver → Ranges
ram_ranges d = ranges_of d.mover.table

-- whether a request is in work
abbrev pub ram_busy : RamDriver → Bool
ram_busy d = d.mover.busy

-- the sectors of the request in work that are still to be moved, in their order
abbrev pub ram_left : RamDriver → List ℕ
ram_left d = left_of d.mover

-- what the request in work is answered in the end
abbrev pub ram_outcome : RamDriver → Result ℕ Errno
ram_outcome d = outcome_of d.mover

-- the same of a driver with an arm
abbrev pub model_state : ModelDriver → DriverState
model_state d = state_of d.mover

-- its ranges
abbrev pub model_ranges : ModelDriver → Ranges
model_ranges d = ranges_of d.mover.table

-- whether a request is in work
abbrev pub model_busy : ModelDriver → Bool
model_busy d = d.mover.busy

-- the sectors of the request in work that are still to be moved, in their order
abbrev pub model_left : ModelDriver → List ℕ
model_left d = left_of d.mover

-- what the request in work is answered in the end
abbrev pub model_outcome : ModelDriver → Result ℕ Errno
model_outcome d = outcome_of d.mover

-- where the arm stands
abbrev pub arm_of : ModelDriver → ℕ
arm_of d = d.mover.arm
