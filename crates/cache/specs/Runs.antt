-- Runs: neighbouring blocks that are written by one request.
use Rattle.std.specs.Prelude.{◌≡◌, ◌⊎◌, ℕ, zero, suc, ◌+◌, ◌-◌, ◌*◌, ◌/◌, ◌<◌, ◌≤◌, ◌&&◌, min, map, nat_le, nat_lt, if◌then◌else◌, List, [], ◌∷◌, ◌++◌, Option, Some, true, slice_index}
use Rattle.message.specs.declared.BlockRequest.{BlockRequest}
use Rattle.message.specs.Good.{is_write}
use Rattle.reissue.specs.declared.table.Table.{Table}
use Rattle.reissue.specs.Entries.{request_of}
use Rattle.cache.specs.declared.slot.Slot.{Slot}
use Rattle.cache.specs.declared.state.State.TheVariants.{Dirty}
use Rattle.cache.specs.Edits.{AreBegun, IsRunEnd}

-- the bytes of a block's slot stand from this place on, and the others stay
pub record IsCopied (held : Option Slot) (size from : ℕ) (old new : List ℕ) : Type 0 where
  pub slot : Slot
  pub is : held ≡ Some slot
  pub each : (k : ℕ) → k < 4096
      → slice_index new k ≡ (if nat_le from k && nat_lt k (from + size) then slice_index slot.bytes.value (k - from) else slice_index old k)

-- the bytes of so many neighbouring blocks' slots from this one on, one block after the other
pub record AreGathered (held : ℕ → Option Slot) (block count size : ℕ) (bytes : List ℕ) : Type 0 where
  pub each : (i o : ℕ) (s : Slot) → i < count → o < size → held (block + i) ≡ Some s
      → slice_index bytes (i * size + o) ≡ slice_index s.bytes.value o

-- the requests for what is left of those that are pending
abbrev pub requests_in : Table → List BlockRequest
requests_in table = map request_of table.pending

-- the writes of so many neighbouring frames from this block on are begun by one request, behind those that are pending, for just their bytes
pub record IsRunBegun (size block count : ℕ) (old new : ℕ → Option Slot) (pending pending' : List BlockRequest) : Type 0 where
  pub ticket : ℕ
  pub request : BlockRequest
  pub begun : AreBegun block count ticket old new
  pub added : pending' ≡ pending ++ request ∷ []
  pub write : is_write request.kind ≡ true
  pub start : request.position ≡ block * size
  pub whole : request.count ≡ count * size

-- The writes of so many neighbouring dirty frames are begun by one request, from the lowest block on: as many as are dirty side by side, but
-- no more than `most`, and than one request takes.
pub record IssuesRun (most size count : ℕ) (old new : ℕ → Option Slot) (pending pending' : List BlockRequest) : Type 0 where
  pub block : ℕ
  pub some : 0 < count
  pub run : IsRunBegun size block count old new pending pending'
  pub lowest : (b : ℕ) (s : Slot) → old b ≡ Some s → s.state ≡ Dirty → block ≤ b
  pub few : count ≤ min most (4096 / size)
  pub end : (count ≡ min most (4096 / size)) ⊎ IsRunEnd old (block + count)

-- the writes of so many frames are begun: none, or a run
abbrev pub BeginsRun : ℕ → ℕ → ℕ → (ℕ → Option Slot) → (ℕ → Option Slot) → List BlockRequest → List BlockRequest → Type 0
BeginsRun most size zero old new pending pending' = (new ≡ old) × (pending' ≡ pending)
BeginsRun most size (suc n) old new pending pending' = IssuesRun most size (suc n) old new pending pending'
