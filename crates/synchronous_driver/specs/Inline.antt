-- What is asked of the drivers that are handed in.
use Rattle.std.specs.Prelude.{◌≡◌, Some}
use Rattle.records.specs.Opening.{Opening}
use Rattle.bdev.specs.DriverState.{DriverState, range_while_fresh}
use Rattle.bdev.specs.Promises.{IsDriver}

-- a driver that wasn't used serves the volume's range
pub record IsReady (v : Opening) (d : DriverState) : Type 0 where
  pub driver : IsDriver d
  pub ready : range_while_fresh d v.minor ≡ Some (v.first, v.count)
