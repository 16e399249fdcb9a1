-- A driver that dies once it has moved so many sectors.
use Rattle.std.specs.Prelude.{ℕ, ◌-◌, Bool, true, false, Result, Ok, Err, nat_lt, if◌then◌else◌}
use Rattle.errno.specs.declared.Errno.{Errno}
use Rattle.bdev.specs.declared.Step.{Step}
use Rattle.bdev.specs.declared.Step.TheVariants.{Working, Idle, Done, Failed}
use Rattle.bdev.specs.DriverState.{DriverState}
use Rattle.bdev.specs.Failing.{failed}

-- the driver has failed, if so
abbrev pub failed_if : Bool → DriverState → DriverState
failed_if true d = failed d
failed_if false d = d

-- whether an outcome is some bytes
abbrev pub has_bytes : Result ℕ Errno → Bool
has_bytes (Ok bytes) = nat_lt 0 bytes
has_bytes (Err errno) = false

-- whether a step counts as one that moved a sector
abbrev pub moves : Step → Bool
moves Working = true
moves (Done answer) = has_bytes answer.outcome
moves Idle = false
moves Failed = false

-- how many sectors are left to be moved after a step
abbrev pub left_after : Step → ℕ → ℕ
left_after step left = if moves step then left - 1 else left
