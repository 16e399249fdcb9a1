use Rattle.std.specs.Prelude.{◌≡◌, All, length}
use Rattle.mount_service.specs.Mortal.{IsMortal}
use Rattle.mount_service.proofs.mortal.mortal_drivers.Given as goal

-- so many drivers were made, each of this kind
abbrev pub invariant-loop-spare : goal.invariant-loop-spare
invariant-loop-spare l = (length l.drivers.items ≡ l.spare) × All (IsMortal l.model l.mortality l.table) l.drivers.items
