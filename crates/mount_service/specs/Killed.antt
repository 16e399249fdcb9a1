-- Drivers that die when they are told to.
use Rattle.bdev.specs.DriverState.{DriverState}
use Rattle.modeldisk.specs.Dying.{failed_if}
use Rattle.mount_service.specs.declared.killed.KilledDriver.{KilledDriver}

-- the driver as the interface sees it: as the one in it, failed if it is dead
abbrev pub killed_state : {D : Type 0} → (D → DriverState) → KilledDriver D → DriverState
killed_state state d = failed_if d.dead (state d.driver)
