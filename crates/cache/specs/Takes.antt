-- What a message taken does to the frames, and what a block that was read reads as.
use Rattle.std.specs.Prelude.{◌≡◌, ℕ, ◌+◌, ◌*◌, ◌<◌, List, Bool, false, Option, Some, None, Result, Ok, Err, slice_index, ◌==◌}
use Rattle.reissue.specs.Moves.{DiskState, Begun}
use Rattle.reissue.specs.Entries.{pending_of}
use Rattle.cache.specs.Settling.{Taking}
use Rattle.cache.specs.Settling as took
use Rattle.block_store.specs.declared.Cut.{Cut}
use Rattle.cache.specs.Calls.{AbstractCache, Serves}

-- these bytes are the disk's from the place on, where it is sure
pub record AreDisk (start size : ℕ) (bytes : List ℕ) (v : DiskState) : Type 0 where
  pub each : (k : ℕ) → k < size → v.unsure (start + k) ≡ false → slice_index bytes k ≡ v.disk (start + k)

-- the bytes of a settled read are the disk's where it is sure
abbrev pub ReadTells : Result Taking Cut → (ℕ → Option Begun) → DiskState → Type 0
ReadTells (Ok (took.Read t bytes)) pending v = (r : Begun) → pending t ≡ Some r → AreDisk r.start r.size bytes v
ReadTells (Ok took.Nothing) pending v = Unit {0}
ReadTells (Err cut) pending v = Unit {0}

-- what a message taken does
pub record Takes (result : Result Taking Cut) (old new : AbstractCache) (w v : DiskState) : Type 0 where
  pub serves : Serves old new w v
  pub tells : ReadTells result (pending_of old.table.pending) v

-- this read was handed out
abbrev pub is_read_of : Result Taking Cut → ℕ → Bool
is_read_of (Ok (took.Read u bytes)) t = u == t
is_read_of (Ok took.Nothing) t = false
is_read_of (Err cut) t = false

-- no read is pending that wasn't before
abbrev pub NoReadBegun : (ℕ → Option Begun) → (ℕ → Option Begun) → Type 0
NoReadBegun pending pending' = (t : ℕ) (r : Begun) → pending' t ≡ Some r → r.written ≡ None → pending t ≡ Some r

-- what is handed out is a read that was pending
abbrev pub IsHandedOut : Result Taking Cut → (ℕ → Option Begun) → Type 0
IsHandedOut (Ok (took.Read t bytes)) pending = (r : Begun) × (pending t ≡ Some r) × (r.written ≡ None)
IsHandedOut (Ok took.Nothing) pending = Unit {0}
IsHandedOut (Err cut) pending = Unit {0}

-- a pending read stays pending until it is handed out, and none is begun
pub record ReadsStay (result : Result Taking Cut) (pending pending' : ℕ → Option Begun) : Type 0 where
  pub stays : (t : ℕ) (r : Begun) → pending t ≡ Some r → r.written ≡ None → is_read_of result t ≡ false → pending' t ≡ Some r
  pub none_begun : NoReadBegun pending pending'
  pub handed_out : IsHandedOut result pending

-- a read of this range is pending under this ticket
pub record IsReadAt (pending : ℕ → Option Begun) (ticket start size : ℕ) : Type 0 where
  pub request : Begun
  pub is : pending ticket ≡ Some request
  pub read : request.written ≡ None
  pub start_is : request.start ≡ start
  pub size_is : request.size ≡ size

-- the read of this block is
abbrev pub IsBlockRead : (ℕ → Option Begun) → ℕ → ℕ → ℕ → Type 0
IsBlockRead pending ticket block size = IsReadAt pending ticket (block * size) size

-- what was read stands in the room for it, unless it was cut
abbrev pub read_into : Result (Unit {0}) Cut → List ℕ → Result (List ℕ) Cut
read_into (Ok done) bytes = Ok bytes
read_into (Err cut) bytes = Err cut

-- the bytes of a range that was read
abbrev pub BytesOf : Result (List ℕ) Cut → ℕ → ℕ → DiskState → Type 0
BytesOf (Ok bytes) start size v = AreDisk start size bytes v
BytesOf (Err cut) start size v = Unit {0}

-- what a read of a range does
pub record Reads (result : Result (List ℕ) Cut) (start size : ℕ) (old new : AbstractCache) (w v : DiskState) : Type 0 where
  pub serves : Serves old new w v
  pub bytes : BytesOf result start size v
