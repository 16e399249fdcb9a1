-- A driver that has failed, if it is dead.
use Rattle.std.proofs.Common.{Bool, true, false}
use Rattle.bdev.specs.DriverState.{DriverState}
use Rattle.bdev.specs.Promises.{IsDriver}
use Rattle.bdev.proofs.FailLaws.{is_driver}
use Rattle.modeldisk.specs.Dying.{failed_if}

-- it is a driver either way
pub driver_if : (dead : Bool) (d : DriverState) → IsDriver d → IsDriver (failed_if dead d)
driver_if true d is = is_driver d is
driver_if false d is = is
