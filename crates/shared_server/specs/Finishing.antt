-- How a last sync went, and the places of a range that are read back.
use Rattle.std.specs.Prelude.{◌≡◌, ◌⊎◌, ℕ, ◌+◌, ◌*◌, ◌/◌, ◌<◌, ◌≤◌, List, [], ◌∷◌, Bool, true, min}
use Rattle.changes.specs.Units.{is_marked}
use Rattle.file_server.specs.declared.ReadEnd.{ReadEnd}
use Rattle.file_server.specs.declared.ReadEnd.TheVariants as read
use Rattle.volume_reading.specs.declared.place.Place.{Place}
use Rattle.volume_reading.specs.Pieces.{Piece, ArePieces, IsIn}
use Rattle.volume_reading.specs.Places.{ArePlaces}
use Rattle.shared_server.specs.Stopping.{SyncEnd, Went, WasGivenUp, WasCut, WasNotAsRead, WasNotRead}
use Rattle.shared_server.specs.declared.locked.LastSync.{LastSync}
use Rattle.shared_server.specs.declared.locked.LastSync.TheVariants as sync
use Rattle.shared_server.specs.declared.finishing.Finish.{Finish}
use Rattle.shared_server.specs.declared.finishing.Finish.TheVariants.{Read, Unread, GivenUp, Cut}

-- the place of a range of this size that lies in units from the first to before the end
pub record IsPlaceOf (first end size : ℕ) (p : Place) : Type 0 where
  pub start : p.start ≡ 4096 * first
  pub behind : p.start + p.size ≡ min (4096 * end) size

-- one of the places has this byte of the range
abbrev pub IsAmong : List Place → ℕ → Type 0
IsAmong [] k = ⊥
IsAmong (p ∷ ps) k = ((p.start ≤ k) × (k < p.start + p.size)) ⊎ IsAmong ps k

-- the places of a range of this size, in order, that have each byte of it in a marked unit, and no other
pub record ArePlacesOf (units : List Bool) (size : ℕ) (places : List Place) : Type 0 where
  pub ordered : ArePlaces 0 size places
  pub all : (k : ℕ) → k < size → is_marked units (k / 4096) ≡ true → IsAmong places k
  pub only : (k : ℕ) → IsAmong places k → is_marked units (k / 4096) ≡ true

-- the pieces of a range of this size, in order, that have each place of it in a marked unit, and no other
pub record ArePiecesOf (units : List Bool) (size : ℕ) (pieces : List Piece) : Type 0 where
  pub ordered : ArePieces 0 size pieces
  pub all : (k : ℕ) → k < size → is_marked units (k / 4096) ≡ true → IsIn pieces k
  pub only : (k : ℕ) → IsIn pieces k → is_marked units (k / 4096) ≡ true

-- how it went, in the words of contracts
abbrev pub sync_of : LastSync → SyncEnd
sync_of sync.Done = Went
sync_of sync.GivenUp = WasGivenUp
sync_of sync.Cut = WasCut
sync_of sync.NotAsRead = WasNotAsRead
sync_of sync.NotRead = WasNotRead

-- how one went that was answered ok, by how the volume was read back
abbrev pub end_of : ReadEnd → SyncEnd
end_of read.Read = Went
end_of read.GivenUp = WasGivenUp
end_of read.Cut = WasCut

-- how one went, by what came of it and of reading the volume back
abbrev pub finish_end : Finish → SyncEnd
finish_end (Read units) = Went
finish_end Unread = WasNotRead
finish_end GivenUp = WasGivenUp
finish_end Cut = WasCut

-- the units that writes had bytes in, where what lies in them was read back
abbrev pub units_back : Finish → List Bool
units_back (Read units) = units
units_back _ = []
