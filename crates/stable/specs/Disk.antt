-- What two files on stable storage hold, and what a crash may leave of them.
use Rattle.std.specs.Prelude.{◌≡◌, ◌⊎◌, ℕ, ◌+◌, List, [], ◌∷◌, Bool, true, false, ◌==◌, if◌then◌else◌}
use Rattle.stable.specs.declared.Which.{Which}
use Rattle.stable.specs.declared.Which.TheVariants.{Log, Image}

-- the bytes of each unit, by its number
abbrev pub Contents : Type 0
Contents = ℕ → List ℕ

-- units' new bytes, in order: numbers, and the bytes
abbrev pub Changes : Type 0
Changes = List (ℕ × List ℕ)

-- contents after one unit was set
abbrev pub set : Contents → ℕ × List ℕ → Contents
set c w n = if n == w.0 then w.1 else c n

-- contents after these changes, in order: a later one counts
abbrev pub put : Changes → Contents → Contents
put [] c = c
put (w ∷ ws) c = put ws (set c w)

-- neighbouring units, from one on
abbrev pub numbered : ℕ → List (List ℕ) → Changes
numbered at [] = []
numbered at (u ∷ units) = (at, u) ∷ numbered (at + 1) units

-- one of these changes sets unit n
abbrev pub Touches : Changes → ℕ → Type 0
Touches [] n = ⊥
Touches (w ∷ ws) n = (w.0 ≡ n) ⊎ Touches ws n

-- what is asked of stable storage: neighbouring units to be written, from one on, or all that was written to a file to be kept
pub data Step : Type 0 where
  Write : Which → ℕ → List (List ℕ) → Step
  Sync : Which → Step

-- a step that was done, or that failed
pub data Event : Type 0 where
  Did : Step → Event
  Failed : Step → Event

-- How sure a unit's bytes are. Kept: they are on the disk, and a crash leaves them. Written: the next sync of the file keeps them. Stale:
-- no sync keeps them, since a write or a sync of them failed.
pub data Held : Type 0 where
  Kept : Held
  Written : Held
  Stale : Held

-- A file: the bytes that a reader sees, how sure those of each unit are, and whether a write or a sync has failed since it was opened.
pub record FileState : Type 0 where
  pub shows : ℕ → List ℕ
  pub held : ℕ → Held
  pub failed : Bool

-- this is so of unit n, and of the others what it was
abbrev pub hold : (ℕ → Held) → ℕ → Held → ℕ → Held
hold held m h n = if n == m then h else held n

-- this is so of each unit that the changes set
abbrev pub mark : Held → Changes → (ℕ → Held) → ℕ → Held
mark h [] held = held
mark h (w ∷ ws) held = mark h ws (hold held w.0 h)

abbrev pub file_written : FileState → Changes → FileState
file_written f ws = record { shows = put ws f.shows; held = mark Written ws f.held; failed = f.failed }

-- a write that failed may have left anything in each of its units
abbrev pub file_spoilt : FileState → Changes → FileState
file_spoilt f ws = record { shows = put ws f.shows; held = mark Stale ws f.held; failed = true }

abbrev pub kept : Held → Held
kept Kept = Kept
kept Written = Kept
kept Stale = Stale

abbrev pub file_synced : FileState → FileState
file_synced f = record { shows = f.shows; held = λ n. kept (f.held n); failed = f.failed }

abbrev pub lost : Held → Held
lost Kept = Kept
lost Written = Stale
lost Stale = Stale

-- after a sync that failed no later sync keeps what was written before it
abbrev pub file_unsynced : FileState → FileState
file_unsynced f = record { shows = f.shows; held = λ n. lost (f.held n); failed = true }

-- After a crash each unit that was kept holds what it held. Another one may hold anything: its old bytes, those of any write since, a
-- mixture, or others. So any writes may be lost and any may be done, in any order, in whole units or in parts.
abbrev pub MayLeave : FileState → Contents → Type 0
MayLeave f c = (n : ℕ) → f.held n ≡ Kept → c n ≡ f.shows n

-- unit n is sure to hold these bytes, whatever a crash leaves
pub record Keeps (f : FileState) (n : ℕ) (bytes : List ℕ) : Type 0 where
  pub sure : f.held n ≡ Kept
  pub is : f.shows n ≡ bytes

-- the two files
pub record Disk : Type 0 where
  pub log : FileState
  pub image : FileState

abbrev pub done : Disk → Step → Disk
done d (Write Log at units) = record { log = file_written d.log (numbered at units); image = d.image }
done d (Write Image at units) = record { log = d.log; image = file_written d.image (numbered at units) }
done d (Sync Log) = record { log = file_synced d.log; image = d.image }
done d (Sync Image) = record { log = d.log; image = file_synced d.image }

abbrev pub broken : Disk → Step → Disk
broken d (Write Log at units) = record { log = file_spoilt d.log (numbered at units); image = d.image }
broken d (Write Image at units) = record { log = d.log; image = file_spoilt d.image (numbered at units) }
broken d (Sync Log) = record { log = file_unsynced d.log; image = d.image }
broken d (Sync Image) = record { log = d.log; image = file_unsynced d.image }

abbrev pub happened : Disk → Event → Disk
happened d (Did step) = done d step
happened d (Failed step) = broken d step

-- after these events, in order
abbrev pub run : List Event → Disk → Disk
run [] d = d
run (e ∷ es) d = run es (happened d e)

-- a crash at this moment may leave these contents
pub record Leaves (d : Disk) (log image : ℕ → List ℕ) : Type 0 where
  pub log_left : MayLeave d.log log
  pub image_left : MayLeave d.image image

-- A file opened again, after a crash or after a program that ended: what was kept is kept still. Of another unit nothing is said: a crash
-- leaves it Kept with some bytes, a program that ended leaves it Written, or Stale with bytes that may change once the system drops them.
pub record Opens (f g : FileState) : Type 0 where
  pub sound : g.failed ≡ false
  pub still : (n : ℕ) → f.held n ≡ Kept → Keeps g n (f.shows n)

pub record Reopens (d e : Disk) : Type 0 where
  pub log_opens : Opens d.log e.log
  pub image_opens : Opens d.image e.image

-- a file that a crash left with these contents
abbrev pub on_disk : Contents → FileState
on_disk c = record { shows = c; held = λ n. Kept; failed = false }

-- after a crash that left these contents
abbrev pub restarted : Contents → Contents → Disk
restarted log image = record { log = on_disk log; image = on_disk image }
