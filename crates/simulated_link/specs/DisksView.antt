-- The media and drivers of a run, as contracts see them.
use Rattle.std.specs.Prelude.{◌≡◌, ◌<◌, ◌≤◌, [], map, vec_len, vec_capacity}
use Rattle.std.specs.VecDeque.{deque_capacity}
use Rattle.bdev.specs.DriverState.{DriverState}
use Rattle.simulated_link.specs.Disks.{Disks}
use Rattle.simulated_link.specs.UnitView.{slot_of}
use Rattle.simulated_link.specs.declared.drivers.Drivers.{Drivers}

abbrev pub disks_of : {D : Type 0} → (D → DriverState) → Drivers D → Disks
disks_of state d = record { media = d.media; current = slot_of state d.current; older = map (slot_of state) d.older.items; sent = d.sent.items }

-- there is room for what one event adds: a reply, and a driver with its line
pub record HasRoom {D : Type 0} (d : Drivers D) : Type 0 where
  pub reply : vec_len d.sent < vec_capacity d.sent
  pub driver : vec_len d.older < vec_capacity d.older
  pub empty : d.next_line.items ≡ []
  pub line : 32 ≤ deque_capacity d.next_line

-- all is as it was, but that there may be more room for replies and drivers
pub record IsAsBefore {D : Type 0} (old new : Drivers D) : Type 0 where
  pub media : new.media ≡ old.media
  pub generation : new.generation ≡ old.generation
  pub current : new.current ≡ old.current
  pub older : new.older.items ≡ old.older.items
  pub sent : new.sent.items ≡ old.sent.items
  pub next_line : new.next_line ≡ old.next_line
  pub replies : vec_capacity old.sent ≤ vec_capacity new.sent
  pub drivers : vec_capacity old.older ≤ vec_capacity new.older
