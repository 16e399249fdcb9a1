-- What reading a volume back through a link does, once all that was pending has come.
use Rattle.std.specs.Prelude.{◌≡◌, ℕ, List, [], ◌++◌, length, Some, false, true, Result, Ok, Err, OnOk, OnErr}
use Rattle.records.specs.Marks.{Mark}
use Rattle.records.specs.Disk.{Contents, HasTrueReplies, disk_after, unsure}
use Rattle.records.specs.Area.{Area}
use Rattle.records.specs.Opening.{Opening}
use Rattle.records.specs.Told.{Told, grown, took_end}
use Rattle.reissue.specs.declared.table.Table.{Table}
use Rattle.reissue.specs.declared.pending.Pending.{Pending}
use Rattle.reissue.specs.Agrees.{Agrees}
use Rattle.reissue.specs.Entries.{pending_of, AllIn}
use Rattle.reissue.specs.Moves.{Begun, WasRead}
use Rattle.reissue.specs.Calls.{Truth}
use Rattle.volume_reading.specs.declared.reading.Stop.{Stop}
use Rattle.volume_reading.specs.declared.reading.Stop.TheVariants.{OutOfMemory, GaveUp, Ended}
use Rattle.volume_reading.specs.declared.place.Place.{Place}
use Rattle.volume_reading.specs.Reading.{LeavesDisk, ReadsRange}
use Rattle.volume_reading.specs.Pieces.{HaveBytes, Piece}

-- these requests are for an area of this minor
pub record AreFor (minor : ℕ) (ps : List Pending) : Type 0 where
  pub area : Area
  pub minor_is : area.minor ≡ minor
  pub all : AllIn area ps

-- none of them is a write
pub record AreReads (ps : List Pending) : Type 0 where
  pub none : (t : ℕ) (r : Begun) (bytes : List ℕ) → pending_of ps t ≡ Some r → r.written ≡ Some bytes → ⊥

-- The link was told and gave these, from a table on: so it is of each record that the table agreed with. Where no write was pending the disk
-- stays, over true replies.
pub record GoesOn (minor : ℕ) (told : List Told) (old new : Table) (before after : List Told) (was is : Truth) : Type 0 where
  pub history : after ≡ told ++ before
  pub agrees : (marks : List Mark) → Agrees old marks → Agrees new (grown told marks)
  pub truth : (v : Opening) (marks : List Mark) → v.minor ≡ minor → Agrees old marks → was v marks → is v (grown told marks)
  pub leaves : AreReads old.pending → (image : Contents) (marks : List Mark) → Agrees old marks → HasTrueReplies image (grown told marks)
      → LeavesDisk image marks (grown told marks)

-- how it ended: with nothing pending; with the device given up; with the link's end
abbrev pub IsOver : Result (Unit {0}) Stop → Table → List Told → Type 0
IsOver (Ok u) new after = (took_end after ≡ false) × (new.given_up ≡ false) × (new.pending ≡ [])
IsOver (Err OutOfMemory) new after = ⊥
IsOver (Err GaveUp) new after = (took_end after ≡ false) × (new.given_up ≡ true)
IsOver (Err Ended) new after = (took_end after ≡ true) × (new.given_up ≡ false)

-- all that was pending was waited for
pub record Waits (result : Result (Unit {0}) Stop) (minor : ℕ) (old new : Table) (before after : List Told) (was is : Truth) : Type 0 where
  pub told : List Told
  pub goes : GoesOn minor told old new before after was is
  pub over : IsOver result new after

-- The place was read, and gave this byte; where no write was pending, it is the disk's, over true replies, if the disk was sure of it.
pub record IsBack (old : Table) (marks more : List Mark) (place byte : ℕ) : Type 0 where
  pub read : WasRead more place byte
  pub is_disk : AreReads old.pending → (image : Contents) → HasTrueReplies image more → unsure marks place ≡ false
      → byte ≡ disk_after image more place

-- the bytes of each of these pieces came back, if all were read
abbrev pub AreBack : Result (Unit {0}) Stop → List Piece → Table → List Told → Type 0
AreBack (Ok u) pieces old told = (marks : List Mark) → Agrees old marks → HaveBytes (IsBack old marks (grown told marks)) pieces
AreBack (Err stop) pieces old told = Unit {0}

-- All that was pending was waited for, and then these pieces of the range were read.
pub record ReadsBack (result : Result (Unit {0}) Stop) (minor : ℕ) (pieces : List Piece) (old new : Table) (before after : List Told)
    (was is : Truth) : Type 0 where
  pub told : List Told
  pub goes : GoesOn minor told old new before after was is
  pub over : IsOver result new after
  pub back : AreBack result pieces old told

-- The bytes of a place were read, and its piece was taken; or not all of them were, and none was taken.
pub record ReadsPlace {T : Type 0} (takes : T → Piece → T → Type 0) (result : Result (Unit {0}) Stop) (minor : ℕ) (place : Place)
    (taker more : T) (old new : Table) (before after : List Told) (was is : Truth) : Type 0 where
  pub bytes : List ℕ
  pub long : length bytes ≡ place.size
  pub reads : ReadsRange result minor place.start place.size bytes old new before after was is
  pub took : OnOk result (takes taker (record { start = place.start; bytes = bytes }) more)
  pub stopped : OnErr result (more ≡ taker)
