-- A driver that fails, whatever else it does.
use Rattle.std.specs.Prelude.{ℕ, true}
use Rattle.message.specs.declared.BlockRequest.{BlockRequest}
use Rattle.media.specs.Contents.{MediaState}
use Rattle.bdev.specs.declared.Accept.{Accept}
use Rattle.bdev.specs.declared.Step.TheVariants.{Failed}
use Rattle.bdev.specs.DriverState.{DriverState}
use Rattle.bdev.specs.Promises.{IsDriver, AcceptKeeps, StepKeeps}

-- the driver has failed
abbrev pub failed : DriverState → DriverState
failed d = record d { failed = true }

-- A driver may fail at any step, whether a request is in work or not: where it leaves the media and its own state as they are, but for having
-- failed, the step keeps the interface.
abbrev pub FailingKeeps : Type 0
FailingKeeps = (d : DriverState) (media : MediaState) (generation : ℕ) → StepKeeps d media generation Failed (failed d) media

-- what has failed is a driver still
abbrev pub FailedIsDriver : Type 0
FailedIsDriver = (d : DriverState) → IsDriver d → IsDriver (failed d)

-- and it takes and refuses requests as it did
abbrev pub FailedAccepts : Type 0
FailedAccepts =
    (old : DriverState) (request : BlockRequest) (accept : Accept) (new : DriverState) → AcceptKeeps old request accept new
    → AcceptKeeps (failed old) request accept (failed new)
