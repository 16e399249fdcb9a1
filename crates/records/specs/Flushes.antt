-- What a server begins to write on a Flush, and the bytes of what is pending.
use Rattle.std.specs.Prelude.{◌≡◌, ◌⊎◌, ℕ, ◌+◌, ◌-◌, ◌*◌, ◌/◌, ◌<◌, ◌≤◌, min, nat_lt, nat_le, List, [], ◌∷◌, ◌++◌, length, sum, Bool, true, false, not, ◌&&◌, IsTrue, Some, slice_index}
use Rattle.std.specs.List.{list_any}
use Rattle.message.specs.declared.BlockRequest.{BlockRequest}
use Rattle.message.specs.Good.{is_write}
use Rattle.records.specs.Marks.{Mark}
use Rattle.records.specs.Open.{open_requests}
use Rattle.records.specs.Acts.{Outbox}
use Rattle.records.specs.View.{Frames}

-- the pending requests: those that are open, and those that were never issued
abbrev pub pending_requests : List Mark → Outbox → List BlockRequest
pending_requests marks o = open_requests marks ++ o.never_issued

-- Whether a byte of this block may have been asked for by the request, or by the one of which it is what is left: it ends behind the block's
-- first byte, and less than the 4096 bytes that one request has at most behind its last.
abbrev pub may_have : ℕ → ℕ → BlockRequest → Bool
may_have size block r =
    nat_lt (block * size) (r.position + r.count) && nat_lt (r.position + r.count) (block * size + size + 4096)

-- whether that is a write, or a read
abbrev pub may_write : ℕ → ℕ → BlockRequest → Bool
may_write size block r = is_write r.kind && may_have size block r

abbrev pub may_read : ℕ → ℕ → BlockRequest → Bool
may_read size block r = not (is_write r.kind) && may_have size block r

-- the unwritten blocks without so many from this one on
abbrev pub without_run : ℕ → ℕ → (ℕ → Bool) → ℕ → Bool
without_run block count unwritten b = unwritten b && not (nat_le block b && nat_lt b (block + count))

-- One write becomes pending, behind the other requests: of the lowest unwritten block and its neighbours, as many as are unwritten side by
-- side, but no more than `most`, and than 4096 bytes have.
pub record WritesRun (most size count : ℕ) (old new : ℕ → Bool) (pending pending' : List BlockRequest) : Type 0 where
  pub request : BlockRequest
  pub block : ℕ
  pub added : pending' ≡ pending ++ request ∷ []
  pub write : is_write request.kind ≡ true
  pub position : request.position ≡ block * size
  pub bytes : request.count ≡ count * size
  pub some : 0 < count
  pub lowest : (b : ℕ) → b < block → old b ≡ false
  pub unwritten : (i : ℕ) → i < count → old (block + i) ≡ true
  pub few : count ≤ min most (4096 / size)
  pub end : (count ≡ min most (4096 / size)) ⊎ (old (block + count) ≡ false)
  pub left : new ≡ without_run block count old

-- writes of so many blocks each become pending, the last one first: of `most` blocks at most
abbrev pub WritesLowest : List ℕ → ℕ → ℕ → (ℕ → Bool) → (ℕ → Bool) → List BlockRequest → List BlockRequest → Type 0
WritesLowest [] most size old new pending pending' = (new ≡ old) × (pending' ≡ pending)
WritesLowest (n ∷ counts) most size old new pending pending' =
    (mid : ℕ → Bool) × (between : List BlockRequest) × WritesLowest counts most size old mid pending between
    × WritesRun (most - sum counts) size n mid new between pending'

-- no further write can begin: no block is unwritten, sixteen requests are pending, or one is that may read an unwritten block
abbrev pub IsStuck : ℕ → (ℕ → Bool) → List BlockRequest → Type 0
IsStuck size unwritten pending =
    ((b : ℕ) → unwritten b ≡ false)
    ⊎ ((length pending ≡ 16) ⊎ ((b : ℕ) × (unwritten b ≡ true) × IsTrue (list_any (may_read size b) pending)))

-- Writes of the lowest unwritten blocks become pending, of sixteen at most; while messages may come of sixteen, or no further one can begin.
pub record Flushes (size : ℕ) (live : Bool) (old new : ℕ → Bool) (pending pending' : List BlockRequest) : Type 0 where
  pub counts : List ℕ
  pub writes : WritesLowest counts 16 size old new pending pending'
  pub all : live ≡ true → (sum counts ≡ 16) ⊎ IsStuck size new pending'

-- The frames of a server, beside the disk: their bytes; the blocks whose frames were changed, and whose writes aren't under way; those whose
-- frames were changed since the write that is under way was begun.
pub record FrameState : Type 0 where
  pub frames : Frames
  pub unwritten : ℕ → Bool
  pub overtaken : ℕ → Bool

-- no block is overtaken that wasn't
abbrev pub OvertakesNone : FrameState → FrameState → Type 0
OvertakesNone old new = (block : ℕ) → new.overtaken block ≡ true → old.overtaken block ≡ true

-- a block has a frame, with this byte there
pub record HasByte (frames : Frames) (block place byte : ℕ) : Type 0 where
  pub bytes : List ℕ
  pub is : frames block ≡ Some bytes
  pub there : slice_index bytes place ≡ byte

-- A request has the bytes of the frames of its blocks, each byte that of its block's frame at its place: but for blocks whose frames were
-- changed since.
pub record HasFrames (size : ℕ) (f : FrameState) (r : BlockRequest) : Type 0 where
  pub each : (block place k : ℕ) → place < size → k < r.count → block * size + place ≡ r.position + k → f.overtaken block ≡ false
      → HasByte f.frames block place (slice_index r.bytes k)

-- so has each write among these
abbrev pub WritesFrames : ℕ → FrameState → List BlockRequest → Type 0
WritesFrames size f [] = Unit {0}
WritesFrames size f (r ∷ rs) = (is_write r.kind ≡ true → HasFrames size f r) × WritesFrames size f rs

-- A Flush is carried out: such writes become pending, and frames keep their bytes.
pub record FlushesOn (size : ℕ) (live : Bool) (old new : FrameState) (pending pending' : List BlockRequest) : Type 0 where
  pub writes : Flushes size live old.unwritten new.unwritten pending pending'
  pub frames : new.frames ≡ old.frames
  pub overtaken : new.overtaken ≡ old.overtaken
