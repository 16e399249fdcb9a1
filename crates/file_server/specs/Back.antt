-- A server's volume read back through its link.
use Rattle.std.specs.Prelude.{◌≡◌, ℕ, List, ◌++◌, Bool, true, false}
use Rattle.tree.specs.declared.Who.{Who}
use Rattle.tree.specs.declared.Call.{Call}
use Rattle.tree.specs.Tree.{Tree}
use Rattle.records.specs.Marks.{Mark, gave_up}
use Rattle.records.specs.Disk.{Contents, HasTrueReplies, disk_after, unsure}
use Rattle.records.specs.Opening.{Opening, contents_at}
use Rattle.records.specs.Told.{Told, grown, took_end}
use Rattle.records.specs.ServerCall.{Serving, Outcome, with_outcome}
use Rattle.reissue.specs.Calls.{Truth}
use Rattle.reissue.specs.Moves.{WasRead}
use Rattle.volume_reading.specs.Pieces.{HaveBytes, Piece}
use Rattle.volume_reading.specs.Reading.{LeavesDisk}
use Rattle.file_server.specs.declared.ReadEnd.{ReadEnd}
use Rattle.file_server.specs.declared.ReadEnd.TheVariants.{Read, GivenUp, Cut}

-- whether the link has ended
abbrev pub is_cut : ReadEnd → Bool
is_cut Cut = true
is_cut Read = false
is_cut GivenUp = false

-- whether the device was given up
abbrev pub is_given_up : ReadEnd → Bool
is_given_up GivenUp = true
is_given_up Read = false
is_given_up Cut = false

-- the server agrees with the record, up to the mark of a call that was just answered, which it doesn't note
pub record AgreesUpToCall (s : Serving) (image : Contents) (tree : Tree) (marks : List Mark) : Type 0 where
  pub who : Who
  pub now : ℕ
  pub call : Call
  pub outcome : Outcome
  pub agrees : s.Agrees image tree (with_outcome who now call outcome marks)

-- The place was read, and gave this byte; where all had been written, it is the disk's, over true replies, if the disk was sure of it.
pub record IsReadBack (settled : Type 0) (marks more : List Mark) (place byte : ℕ) : Type 0 where
  pub read : WasRead more place byte
  pub is_disk : settled → (image : Contents) → HasTrueReplies image more → unsure marks place ≡ false → byte ≡ disk_after image more place

-- A server was let go, what was pending was waited for, and these pieces of its range were read: what its link was told and gave meanwhile
-- goes on from each record that the server agreed with. Where all had been written the disk stays, over true replies.
pub record ReadsBack (s : Serving) (end : ReadEnd) (pieces : List Piece) (after : List Told) (was is : Truth) : Type 0 where
  pub told : List Told
  pub history : after ≡ told ++ s.told
  pub ended : took_end after ≡ is_cut end
  pub given_up : (image : Contents) (tree : Tree) (marks : List Mark) → AgreesUpToCall s image tree marks
      → gave_up (grown told marks) ≡ is_given_up end
  pub truth : (v : Opening) (tree : Tree) (marks : List Mark) → v.minor ≡ s.minor → AgreesUpToCall s (contents_at v) tree marks → was v marks
      → is v (grown told marks)
  pub leaves : s.settled → (image : Contents) (tree : Tree) (marks : List Mark) → AgreesUpToCall s image tree marks
      → HasTrueReplies image (grown told marks) → LeavesDisk image marks (grown told marks)
  pub back : end ≡ Read → (image : Contents) (tree : Tree) (marks : List Mark) → AgreesUpToCall s image tree marks
      → HaveBytes (IsReadBack s.settled marks (grown told marks)) pieces
