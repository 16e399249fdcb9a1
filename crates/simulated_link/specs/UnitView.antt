-- A driver that was started, as contracts see it.
use Rattle.bdev.specs.DriverState.{DriverState}
use Rattle.simulated_link.specs.Disks.{Slot}
use Rattle.simulated_link.specs.declared.unit.Unit.{Unit as Driven}

abbrev pub slot_of : {D : Type 0} → (D → DriverState) → Driven D → Slot
slot_of state u = record { state = state u.driver; live = u.live; hung = u.hung; line = u.line.items }
