-- How a driver gets its requests.
use Rattle.std.specs.Prelude.{◌≡◌, List, [], ◌∷◌}
use Rattle.message.specs.declared.BlockRequest.{BlockRequest}
use Rattle.bdev.specs.declared.Accept.{Accept}
use Rattle.bdev.specs.DriverState.{DriverState}
use Rattle.bdev.specs.Promises.{AcceptKeeps}
use Rattle.true_replies.specs.Events.{line_after}

-- the next request is handed to the driver, and goes on waiting only where the driver is busy; where none waits nothing happens
abbrev pub HandsOver : DriverState → List BlockRequest → DriverState → List BlockRequest → Type 0
HandsOver b [] a line = (a ≡ b) × (line ≡ [])
HandsOver b (q ∷ rest) a line = (result : Accept) × AcceptKeeps b q result a × (line ≡ line_after result q rest)
