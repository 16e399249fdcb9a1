-- What flushing and syncing do.
use Rattle.std.specs.Prelude.{◌≡◌, ◌⊎◌, ℕ, zero, suc, ◌-◌, ◌<◌, ◌≤◌, length, List, [], ◌∷◌, sum, Option, Some, None, Result, Ok, Err, false}
use Rattle.message.specs.declared.BlockRequest.{BlockRequest}
use Rattle.reissue.specs.Moves.{DiskState}
use Rattle.cache.specs.declared.slot.Slot.{Slot}
use Rattle.block_store.specs.declared.Cut.{Cut}
use Rattle.cache.specs.Edits.{IssuesLowest, IssuesNext, NoneDirtyFrom}
use Rattle.cache.specs.Order.{IsDue}
use Rattle.cache.specs.declared.cache.Cache.{Cache}
use Rattle.cache.specs.Frames.{CacheAgrees, view}
use Rattle.cache.specs.Calls.{AbstractCache, held_by, IsLive, IsStuck, IsRefusing, Serves}
use Rattle.cache.specs.Runs.{IssuesRun, requests_in}

-- so many writes at most are begun, each of the dirty frame that then has the lowest block
abbrev pub WritesLowest : ℕ → (ℕ → Option Slot) → (ℕ → Option Slot) → Type 0
WritesLowest zero old new = new ≡ old
WritesLowest (suc n) old new = (new ≡ old) ⊎ ((mid : ℕ → Option Slot) × IssuesLowest old mid × WritesLowest n mid new)

-- just so many writes are begun, each of the dirty frame that then has the lowest block
abbrev pub WritesJust : ℕ → (ℕ → Option Slot) → (ℕ → Option Slot) → Type 0
WritesJust zero old new = new ≡ old
WritesJust (suc n) old new = (mid : ℕ → Option Slot) × IssuesLowest old mid × WritesJust n mid new

-- Runs of so many frames are begun, the last one first: each of neighbouring dirty frames from the one on that then has the lowest block, by
-- one request; all of them have so many frames at most.
abbrev pub WritesRuns : List ℕ → ℕ → ℕ → (ℕ → Option Slot) → (ℕ → Option Slot) → List BlockRequest → List BlockRequest → Type 0
WritesRuns [] most size old new pending pending' = (new ≡ old) × (pending' ≡ pending)
WritesRuns (n ∷ ns) most size old new pending pending' =
    (mid : ℕ → Option Slot) × (between : List BlockRequest) × WritesRuns ns most size old mid pending between
    × IssuesRun (most - sum ns) size n mid new between pending'

-- writes of at most so many frames are begun in runs; while messages may come of so many, or no further one can be before a message is taken
pub record WritesInRuns (most : ℕ) (old new : AbstractCache) : Type 0 where
  pub counts : List ℕ
  pub runs : WritesRuns counts most old.size old.held new.held (requests_in old.table) (requests_in new.table)
  pub all : IsLive new → (sum counts ≡ most) ⊎ IsStuck new

-- as many writes are begun as may be, or no further one can be before a message is taken
abbrev pub BeginsAll : ℕ → (ℕ → Option Slot) → AbstractCache → Type 0
BeginsAll most old new = WritesJust most old new.held ⊎ IsStuck new

-- The writes of these frames are begun, the last one first: each of the dirty frame that then has the lowest block from one on.
abbrev pub WritesFrom : ℕ → List ℕ → (ℕ → Option Slot) → (ℕ → Option Slot) → Type 0
WritesFrom from [] old new = new ≡ old
WritesFrom from (b ∷ blocks) old new = (mid : ℕ → Option Slot) × WritesFrom from blocks old mid × IssuesNext from b mid new

-- So many at most are; fewer only where no frame from there on is dirty, a write is refused, or no message comes any more.
pub record WritesNext (most from : ℕ) (old : ℕ → Option Slot) (new : AbstractCache) : Type 0 where
  pub blocks : List ℕ
  pub few : length blocks ≤ most
  pub writes : WritesFrom from blocks old new.held
  pub stopped : length blocks < most → IsLive new → NoneDirtyFrom from new.held ⊎ IsRefusing new

-- Where the block has no frame, and the frame that goes next is to be written, so it is from its block on; else all stays.
pub record MakesWay {L : Type 0} (block : ℕ) (old new : Cache L) (after : AbstractCache) : Type 0 where
  pub due : Option ℕ
  pub is : IsDue due old.slots.items.items old.slots.uses.numbers.items
  pub begins : (from : ℕ) → due ≡ Some from → held_by old block ≡ None → WritesNext 16 from (held_by old) after
  pub none : due ≡ None → new ≡ old
  pub there : (s : Slot) → held_by old block ≡ Some s → new ≡ old

-- no place is unsure, and the disk is what would be read back
pub record IsSynced (c : AbstractCache) (v : DiskState) : Type 0 where
  pub sure : (place : ℕ) → v.unsure place ≡ false
  pub on_disk : view c.size c.held v ≡ view c.size (λ b. None) v

-- so it is where a sync answered ok
abbrev pub IsSyncedAt : Result (Unit {0}) Cut → AbstractCache → DiskState → Type 0
IsSyncedAt (Ok u) c v = IsSynced c v
IsSyncedAt (Err cut) c v = Unit {0}

-- what a sync does
pub record Syncs (result : Result (Unit {0}) Cut) (old new : AbstractCache) (w v : DiskState) : Type 0 where
  pub serves : Serves old new w v
  pub synced : CacheAgrees old.size old.held w → IsSyncedAt result new v
