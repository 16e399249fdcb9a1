-- What a message does to the disk, to those that are pending and to what was read.
use Rattle.std.specs.Prelude.{◌≡◌, ℕ, List, Option, Some}
use Rattle.records.specs.Marks.{Mark}
use Rattle.records.specs.Disk.{Contents, HasTrueReplies, bytes_read, is_read}
use Rattle.reissue.specs.Settlements.{Settlement}
use Rattle.reissue.specs.Settlements as settled
use Rattle.reissue.specs.declared.pending.Pending.{Pending}
use Rattle.reissue.specs.Moves.{Begun, Touches, IsQuiet, Moves, Joins, state_after}
use Rattle.reissue.specs.Entries.{pending_of, AllAsk, IsLeft}

-- no pending write has a place of a write that was settled
abbrev pub LeavesQuiet : Settlement → (ℕ → Option Begun) → (ℕ → Option Begun) → Type 0
LeavesQuiet (settled.Written t) old new = (r : Begun) → old t ≡ Some r → (place : ℕ) → Touches r place → IsQuiet new place
LeavesQuiet (settled.Read t bytes) old new = Unit {0}
LeavesQuiet settled.Nothing old new = Unit {0}
LeavesQuiet settled.Flush old new = Unit {0}
LeavesQuiet settled.GaveUp old new = Unit {0}
LeavesQuiet settled.End old new = Unit {0}

-- What a message does to what was read: outside what was left of the pending requests it stays, and so does in what is left of them
-- whether it was read; each goes on asking for something.
pub record ReadsOn (old new : List Pending) (marks more : List Mark) : Type 0 where
  pub others : (place : ℕ) → (IsLeft old place → ⊥)
      → (bytes_read more place ≡ bytes_read marks place) × (is_read more place ≡ is_read marks place)
  pub left : (place : ℕ) → IsLeft new place → IsLeft old place × (is_read more place ≡ is_read marks place)
  pub ask : AllAsk old → AllAsk new

-- what a message does to the disk and to what was read, from the one record to the other
pub record Closing (result : Settlement) (old new : List Pending) (marks more : List Mark) : Type 0 where
  pub moves : (image : Contents) → HasTrueReplies image more
      → Moves result (pending_of old) (state_after image marks) (state_after image more)
  pub joins : Joins result (pending_of old) more
  pub leaves : LeavesQuiet result (pending_of old) (pending_of new)
  pub reads : ReadsOn old new marks more
