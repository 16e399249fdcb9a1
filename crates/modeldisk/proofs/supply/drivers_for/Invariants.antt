use Rattle.std.specs.Prelude.{◌≡◌, All, length}
use Rattle.modeldisk.specs.Supply.{IsNew}
use Rattle.modeldisk.proofs.supply.drivers_for.Given as goal

-- so many drivers were made, each new
abbrev pub invariant-loop-spare : goal.invariant-loop-spare
invariant-loop-spare l = (length l.drivers.items ≡ l.spare) × All (IsNew l.model l.table) l.drivers.items
