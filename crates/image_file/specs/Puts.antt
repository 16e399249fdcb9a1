-- What puts ask of an image file and its log, and what a recovery finds at each moment.
use Rattle.std.specs.Prelude.{◌≡◌, ◌⊎◌, ℕ, List, [], ◌∷◌, ◌++◌, Option, Some}
use Rattle.stable.specs.Disk.{Contents, Changes, put, Disk, Step, Leaves, Sync, Did}
use Rattle.stable.specs.declared.Which.TheVariants.{Log}
use Rattle.stable.specs.Runs.{Known, now, Happens}
use Rattle.redo.specs.Record.{recovered, standing, Foreign}
use Rattle.redo.specs.Plans.{log_plan, recover_plan}
use Rattle.redo.specs.UnderWay.{IsCurrent, IsEither}
use Rattle.redo.specs.Laws.{IsImage}

-- Changes are put by a commit, in the record at this place; where there are none, nothing is asked.
abbrev pub put_plan : ℕ → ℕ → Changes → List Step
put_plan name at [] = []
put_plan name at (w ∷ ws) = log_plan name at (w ∷ ws)

-- Where the log is long, what it says is settled first.
abbrev pub long_plan : ℕ → Contents → Changes → List Step
long_plan name log [] = []
long_plan name log (w ∷ ws) = recover_plan name log ++ log_plan name 0 (w ∷ ws)

-- A recovery finds the one image or the other, or what the changes make of one of them, whatever a crash at this moment leaves.
abbrev pub FindsBetween : ℕ → Changes → Contents → Contents → Disk → Type 0
FindsBetween name changes before after d = (log left : Contents) → Leaves d log left
    → (IsImage (recovered name log left) before ⊎ IsImage (recovered name log left) after)
    ⊎ (IsImage (recovered name log left) (put changes before) ⊎ IsImage (recovered name log left) (put changes after))

-- the log says what makes the one image or the other, and the next record goes to this place
abbrev pub CurrentWithEither : ℕ → ℕ → Contents → Contents → Disk → Type 0
CurrentWithEither name at before after d = (found : Contents) × IsCurrent name at found d × IsEither found before after

-- A log was of another image. All that was done was a sync of it, so nothing was written.
pub record IsForeign (name : ℕ) (k : Known) (new : Option Known) : Type 0 where
  pub is : standing name (now k).log.shows ≡ Foreign
  pub unwritten : Happens (Did (Sync Log) ∷ []) (Some k) new
