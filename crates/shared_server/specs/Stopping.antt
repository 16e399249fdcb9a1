-- What a service that is stopped leaves.
use Rattle.std.specs.Prelude.{◌≡◌, ◌<◌, ◌/◌, ℕ, List, ◌∷◌, Bool, true, false, if◌then◌else◌}
use Rattle.layout.specs.declared.Geometry.{Geometry}
use Rattle.tree.specs.declared.Who.{Who}
use Rattle.tree.specs.declared.Call.TheVariants.{Sync}
use Rattle.tree.specs.Tree.{Tree}
use Rattle.tree.specs.Answers.{done}
use Rattle.records.specs.Marks.{Mark, Took, gave_up, IsBeginning}
use Rattle.records.specs.Disk.{HasTrueReplies, disk_after}
use Rattle.records.specs.Opening.{Opening, contents_at}
use Rattle.records.specs.Told.{took_end}
use Rattle.records.specs.Legal.{IsAtFirst, IsSynced, tree_after}
use Rattle.reissue.specs.declared.link.Link.{Ghosts as LinkWords}
use Rattle.reissue.specs.Moves.{WasRead}
use Rattle.changes.specs.Units.{is_marked}
use Rattle.board.specs.Written.{AreWritten}
use Rattle.volume_reading.specs.Pieces.{Piece, ArePieces, HaveBytes, IsIn}

-- who syncs a service that is stopped
abbrev pub syncer : Who
syncer = record { session = 0; uid = 0; gid = 0 }

-- How the last sync of a service went: it was answered ok, and the volume read back; the device was given up, or the link ended, in either;
-- all that went, and the media then weren't as they had been read; or it was answered ok, and the volume not read back.
pub data SyncEnd : Type 0 where
  Went : SyncEnd
  WasGivenUp : SyncEnd
  WasCut : SyncEnd
  WasNotAsRead : SyncEnd
  WasNotRead : SyncEnd

-- by whether it was cut, and whether it was answered ok
abbrev pub sync_end : Bool → Bool → SyncEnd
sync_end cut ok = if cut then WasCut else if ok then Went else WasGivenUp

-- whether the link has ended then
abbrev pub has_ended : SyncEnd → Bool
has_ended WasCut = true
has_ended _ = false

-- what the record says of a sync that was answered ok: the device wasn't given up, and where the replies were true the disk alone holds the
-- tree
abbrev pub IsOnDisk : Geometry → Opening → Tree → List Mark → Type 0
IsOnDisk g v tree marks =
    (gave_up marks ≡ false)
    × (HasTrueReplies (contents_at v) marks → IsSynced g (contents_at v) marks (tree_after g tree (Took syncer 0 Sync done ∷ marks)))

-- What it says then: that, also where the media aren't as read, or it wasn't read back; where the device was given up, over true replies,
-- that it was; of a cut that it wasn't.
abbrev pub SyncTells : SyncEnd → Geometry → Opening → Tree → List Mark → Type 0
SyncTells Went g v tree marks = IsOnDisk g v tree marks
SyncTells WasGivenUp g v tree marks = HasTrueReplies (contents_at v) marks → gave_up marks ≡ true
SyncTells WasCut g v tree marks = gave_up marks ≡ false
SyncTells WasNotAsRead g v tree marks = IsOnDisk g v tree marks
SyncTells WasNotRead g v tree marks = IsOnDisk g v tree marks

-- The units are marked in which writes have bytes. These pieces of the volume's range were read, in order: they have each place in a marked
-- unit, and no other, and each gave its byte; where the replies were true, it is the disk's. In the other units the disk is as it was
-- handed in, whatever the replies.
pub record AreOnDisk (v : Opening) (size : ℕ) (marks : List Mark) (units : List Bool) (pieces : List Piece) : Type 0 where
  pub written : AreWritten units marks
  pub ordered : ArePieces 0 size pieces
  pub all : (k : ℕ) → k < size → is_marked units (k / 4096) ≡ true → IsIn pieces k
  pub only : (k : ℕ) → IsIn pieces k → is_marked units (k / 4096) ≡ true
  pub read : HaveBytes (WasRead marks) pieces
  pub is_disk : HasTrueReplies (contents_at v) marks → HaveBytes (λ k b. b ≡ disk_after (contents_at v) marks k) pieces
  pub elsewhere : (k : ℕ) → k < size → is_marked units (k / 4096) ≡ false → disk_after (contents_at v) marks k ≡ contents_at v k

-- so it is of what was read back, where all went
abbrev pub AreBack : SyncEnd → Opening → ℕ → List Mark → List Bool → List Piece → Type 0
AreBack Went v size marks units pieces = AreOnDisk v size marks units pieces
AreBack _ v size marks units pieces = Unit {0}

-- A service's link after the last sync, which went so: it has ended where the sync was cut, and guarantees a record that goes on from what
-- was seen, and says how the sync went, whichever tree the volume held as it was handed in.
pub record IsLastLine {L : Type 0} (link : LinkWords L) (g : Geometry) (v : Opening) (seen : List Mark) (how : SyncEnd) (line : L) : Type 0 where
  pub ended : took_end (link.history line) ≡ has_ended how
  pub marks : List Mark
  pub guaranteed : link.truth line v marks
  pub goes_on : IsBeginning seen marks
  pub tells : (tree : Tree) → IsAtFirst g (contents_at v) tree → SyncTells how g v tree marks

-- A server was let go after a last sync, which went so, with these pieces of its range of this size read back, which lie in these units:
-- its link then, at which sessions had these numbers.
pub record IsFinished {L : Type 0} (link : LinkWords L) (numbers : L → List ℕ) (g : Geometry) (v : Opening) (seen : List Mark) (used : List ℕ)
    (how : SyncEnd) (size : ℕ) (units : List Bool) (pieces : List Piece) : Type 0 where
  pub line : L
  pub last : IsLastLine link g v seen how line
  pub back : AreBack how v size last.marks units pieces
  pub same : numbers line ≡ used
