-- The state of a driver of either kind.
use Rattle.bdev.specs.DriverState.{DriverState}
use Rattle.modeldisk.specs.Drivers.{ram_state, model_state}
use Rattle.modeldisk.specs.declared.supply.driver.DiskDriver.{DiskDriver}
use Rattle.modeldisk.specs.declared.supply.driver.DiskDriver.TheVariants.{Ram, Arm}

abbrev pub disk_state : DiskDriver → DriverState
disk_state (Ram driver) = ram_state driver
disk_state (Arm driver) = model_state driver
