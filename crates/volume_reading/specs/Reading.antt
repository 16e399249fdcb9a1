-- What reading a range of a volume through a link does.
use Rattle.std.specs.Prelude.{◌≡◌, ℕ, ◌+◌, ◌<◌, ◌≤◌, List, [], ◌∷◌, ◌++◌, length, ◌⊎◌, Option, Some, None, true, false, Result, Ok, Err, slice_index}
use Rattle.records.specs.Marks.{Mark}
use Rattle.records.specs.Disk.{Contents, HasTrueReplies, bytes_read, is_read, disk_after, unsure}
use Rattle.records.specs.Opening.{Opening}
use Rattle.records.specs.Told.{Told, took_end}
use Rattle.records.specs.Acts.{Act, told_of, has_absorbed, marks_after, outbox_after, KeepsRules}
use Rattle.records.specs.Area.{no_area}
use Rattle.records.specs.Mount.{OnlyReads}
use Rattle.reissue.specs.declared.table.Table.{Table}
use Rattle.reissue.specs.declared.pending.Pending.{Pending}
use Rattle.reissue.specs.Agrees.{Agrees}
use Rattle.reissue.specs.Entries.{pending_of, AllIn, AllAsk, IsLeft}
use Rattle.message.specs.declared.Kind.TheVariants.{Read}
use Rattle.reissue.specs.declared.ask.Ask.{Ask}
use Rattle.reissue.specs.declared.link.Link.{Ghosts as LinkWords}
use Rattle.reissue.specs.declared.transfers.Transfers.{Transfers}
use Rattle.reissue.specs.Transfers.{table_of, link_of, begun_in, Between}
use Rattle.reissue.specs.Moves.{Begun, Touches, WasRead, IsBusy, begun_by, put}
use Rattle.reissue.specs.Rules.{outbox_of}
use Rattle.reissue.specs.Calls.{Truth, Adds, Begins}
use Rattle.volume_reading.specs.declared.sought.Sought.{Sought}
use Rattle.volume_reading.specs.declared.reading.Stop.{Stop}
use Rattle.volume_reading.specs.declared.reading.Stop.TheVariants.{OutOfMemory, GaveUp, Ended}
use Rattle.volume_reading.specs.Sought.{piece, piece_size, pieces_of, AreDistinct, AreBefore}

-- from a record that the one table agrees with, the acts keep the rules and write nothing, and
-- lead to one that the other agrees with and to what it owes
pub record Follows (minor : ℕ) (acts : List Act) (old new : Table) (marks : List Mark) : Type 0 where
  pub keep : KeepsRules (no_area minor) acts marks (outbox_of old)
  pub owes : outbox_after acts marks (outbox_of old) ≡ outbox_of new
  pub agrees : Agrees new (marks_after acts marks)

-- the disk stays, and no place becomes unsure
pub record LeavesDisk (image : Contents) (marks more : List Mark) : Type 0 where
  pub disk : (place : ℕ) → disk_after image more place ≡ disk_after image marks place
  pub sure : (place : ℕ) → unsure marks place ≡ false → unsure more place ≡ false

-- What was done at a link, from a table with nothing pending on: reads of a minor were begun, and messages taken. It holds of each record
-- that the table agreed with.
pub record Went (minor : ℕ) (old new : Table) (before after : List Told) (was is : Truth) : Type 0 where
  pub acts : List Act
  pub told : after ≡ told_of acts ++ before
  pub none_absorbed : has_absorbed acts ≡ false
  pub only_reads : OnlyReads acts
  pub minors : AllIn (no_area minor) new.pending
  pub follows : (marks : List Mark) → Agrees old marks → Follows minor acts old new marks
  pub leaves : (image : Contents) (marks : List Mark) → Agrees old marks → HasTrueReplies image (marks_after acts marks)
      → LeavesDisk image marks (marks_after acts marks)
  pub truth : (v : Opening) (marks : List Mark) → v.minor ≡ minor → Agrees old marks → was v marks → is v (marks_after acts marks)

-- the place was read, and gave this byte; over true replies it is the byte that the disk had where it was sure
pub record IsFilled (marks more : List Mark) (place byte : ℕ) : Type 0 where
  pub read : WasRead more place byte
  pub is_disk : (image : Contents) → HasTrueReplies image more → unsure marks place ≡ false → byte ≡ disk_after image marks place

-- no pending read has this place
pub record IsUntouched (pending : ℕ → Option Begun) (place : ℕ) : Type 0 where
  pub none : (t : ℕ) (r : Begun) → pending t ≡ Some r → Touches r place → ⊥

-- no place from this one on was read
pub record IsUnread (start : ℕ) (marks : List Mark) : Type 0 where
  pub each : (place : ℕ) → start ≤ place → is_read marks place ≡ false

-- what was read before this place stays
pub record KeepsBelow (start : ℕ) (marks more : List Mark) : Type 0 where
  pub each : (place : ℕ) → place < start
      → (bytes_read more place ≡ bytes_read marks place) × (is_read more place ≡ is_read marks place)

-- what was read elsewhere than from this place to this one stays
pub record KeepsElsewhere (start end : ℕ) (marks more : List Mark) : Type 0 where
  pub each : (place : ℕ) → (place < start) ⊎ (end ≤ place)
      → (bytes_read more place ≡ bytes_read marks place) × (is_read more place ≡ is_read marks place)

-- the bytes of the range up to the next one to be asked for are there, but for those of pending reads
abbrev pub AreFilled : ℕ → ℕ → (ℕ → Option Begun) → List ℕ → List Mark → List Mark → Type 0
AreFilled start next pending bytes marks more =
    (k : ℕ) → k < next → IsUntouched pending (start + k) → IsFilled marks more (start + k) (slice_index bytes k)

-- What wasn't read yet: something is left of each pending read, and that wasn't, nor what wasn't asked for.
pub record GoesUpTo (start next : ℕ) (ps : List Pending) (more : List Mark) : Type 0 where
  pub asks : AllAsk ps
  pub left : (place : ℕ) → IsLeft ps place → is_read more place ≡ false
  pub beyond : IsUnread (start + next) more

-- A range is being read: so many of its bytes were asked for, and these reads are pending.
pub record Midway (minor start size next : ℕ) (asked : List Sought) (bytes : List ℕ) (old new : Table) (before after : List Told)
    (was is : Truth) : Type 0 where
  pub went : Went minor old new before after was is
  pub pending : pending_of new.pending ≡ pieces_of start size asked
  pub distinct : AreDistinct asked
  pub within : AreBefore size next asked
  pub filled : (marks : List Mark) → Agrees old marks
      → AreFilled start next (pieces_of start size asked) bytes marks (marks_after went.acts marks)
  pub elsewhere : (marks : List Mark) → Agrees old marks → KeepsElsewhere start (start + next) marks (marks_after went.acts marks)
  pub goes : (marks : List Mark) → Agrees old marks → IsUnread start marks → GoesUpTo start next new.pending (marks_after went.acts marks)

-- some byte of the range wasn't read
pub record IsCutShort (start size : ℕ) (marks : List Mark) : Type 0 where
  pub place : ℕ
  pub from : start ≤ place
  pub to : place < start + size
  pub unread : is_read marks place ≡ false

-- how the reading of a range ended: with all its bytes, and nothing pending; for want of memory, before anything was done; with the device
-- given up; with the link's end
abbrev pub IsRangeEnd : Result (Unit {0}) Stop → ℕ → ℕ → List ℕ → Table → Table → List Act → List Told → Type 0
IsRangeEnd (Ok u) start size bytes old new acts after =
    (took_end after ≡ false) × (new.given_up ≡ false) × (new.pending ≡ [])
    × ((marks : List Mark) → Agrees old marks → (k : ℕ) → k < size → IsFilled marks (marks_after acts marks) (start + k) (slice_index bytes k))
IsRangeEnd (Err OutOfMemory) start size bytes old new acts after = (acts ≡ []) × (new ≡ old)
IsRangeEnd (Err GaveUp) start size bytes old new acts after =
    (took_end after ≡ false) × (new.given_up ≡ true)
    × ((marks : List Mark) → Agrees old marks → IsUnread start marks → IsCutShort start size (marks_after acts marks))
IsRangeEnd (Err Ended) start size bytes old new acts after =
    (took_end after ≡ true) × (new.given_up ≡ false)
    × ((marks : List Mark) → Agrees old marks → IsUnread start marks → IsCutShort start size (marks_after acts marks))

-- A range of so many bytes is read, from a table with nothing pending on. What was read elsewhere stays; where none of the places from its
-- start on was read before, none behind it is read.
pub record ReadsRange (result : Result (Unit {0}) Stop) (minor start size : ℕ) (bytes : List ℕ) (old new : Table) (before after : List Told)
    (was is : Truth) : Type 0 where
  pub went : Went minor old new before after was is
  pub below : (marks : List Mark) → Agrees old marks → IsUnread start marks → KeepsBelow start marks (marks_after went.acts marks)
  pub beyond : (marks : List Mark) → Agrees old marks → IsUnread start marks → IsUnread (start + size) (marks_after went.acts marks)
  pub elsewhere : (marks : List Mark) → Agrees old marks → KeepsElsewhere start (start + size) marks (marks_after went.acts marks)
  pub end : IsRangeEnd result start size bytes old new went.acts after

-- The next read of a range was begun: its bytes go where the last ended.
pub record BeginsNext {L : Type 0} (link : LinkWords L) (minor start size next after : ℕ) (asked more : List Sought) (old new : Transfers L) : Type 0 where
  pub ask : Ask
  pub ticket : ℕ
  pub kind : ask.kind ≡ Read
  pub minor_is : ask.minor ≡ minor
  pub begun : begun_by ask ≡ piece start size next
  pub position : ask.position ≡ start + next
  pub count : ask.count ≡ piece_size size next
  pub within : next < size
  pub after_is : after ≡ next + piece_size size next
  pub sought : more ≡ asked ++ record { ticket = ticket; at = next } ∷ []
  pub opens : (begun_in old ticket ≡ None) × (begun_in new ≡ put (begun_in old) ticket (Some (piece start size next)))
  pub adds : Adds ask (table_of old) (table_of new) (link.history (link_of old)) (link.history (link_of new))
  pub begins : Between link (Begins ask) old new

-- nothing was begun: all is asked for, sixteen reads are sought, or something is pending
pub record BeginsNothing {L : Type 0} (size next : ℕ) (asked more : List Sought) (old new : Transfers L) : Type 0 where
  pub same : new ≡ old
  pub sought : more ≡ asked
  pub why : (size ≤ next) ⊎ ((16 ≤ length asked) ⊎ IsBusy (begun_in old))
