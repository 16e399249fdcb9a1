-- The drivers of a run, as they stand.
use Rattle.std.proofs.Common.{◌≡◌, List, [], ◌∷◌, ◌++◌, refl, ap}
use Rattle.std.specs.Prelude.{map}
use Rattle.bdev.specs.DriverState.{DriverState}
use Rattle.simulated_link.specs.UnitView.{slot_of}
use Rattle.simulated_link.specs.declared.unit.Unit.{Unit as Driven}

-- those before the last one, and the last one, are those of the transcript
pub drivers_stand : {D : Type 0} (state : D → DriverState) (older : List (Driven D)) (current : Driven D)
    → map (λ (u : Driven D). state u.driver) older ++ state current.driver ∷ [] ≡ map (λ s. s.state) (map (slot_of state) older ++ slot_of state current ∷ [])
drivers_stand state [] current = refl
drivers_stand state (u ∷ older) current = ap (λ (l : List DriverState). state u.driver ∷ l) (drivers_stand state older current)
