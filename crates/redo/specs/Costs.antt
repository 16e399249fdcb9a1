-- What a commit costs.
use Rattle.std.specs.Prelude.{◌≡◌, ℕ, ◌+◌, List, [], ◌∷◌, length}
use Rattle.stable.specs.declared.Which.TheVariants.{Log}
use Rattle.stable.specs.Disk.{Changes, Step, Write, Sync}
use Rattle.redo.specs.Record.{directory_units, Redo}
use Rattle.redo.specs.Plans.{log_plan, to_recover, runs_of}

-- what a recovery does where the log says these changes
abbrev pub settle_steps : Changes → List Step
settle_steps changes = Sync Log ∷ to_recover (Redo changes) []

-- how many writes are asked for
abbrev pub writes : List Step → ℕ
writes [] = 0
writes (Write file at units ∷ steps) = 1 + writes steps
writes (Sync file ∷ steps) = writes steps

-- how many units they write
abbrev pub units_written : List Step → ℕ
units_written [] = 0
units_written (Write file at units ∷ steps) = length units + units_written steps
units_written (Sync file ∷ steps) = units_written steps

-- how many syncs are waited for
abbrev pub syncs : List Step → ℕ
syncs [] = 0
syncs (Write file at units ∷ steps) = syncs steps
syncs (Sync file ∷ steps) = 1 + syncs steps

-- Logging: each changed unit is written, their numbers take a unit for 1024 of them, and there are three units more: the gate, the head and
-- the gate behind. That takes a write for each unit of the directory, one for each run of sixteen changed units and three more, and two
-- syncs. Settling: a write for each unit and one for the gate, and three syncs.
pub record Costs (name at : ℕ) (changes : List (ℕ × List ℕ)) : Type 0 where
  pub log_units : units_written (log_plan name at changes) ≡ length changes + directory_units (length changes) + 3
  pub log_writes : writes (log_plan name at changes) ≡ directory_units (length changes) + runs_of (length changes) + 3
  pub log_syncs : syncs (log_plan name at changes) ≡ 2
  pub settle_units : units_written (settle_steps changes) ≡ length changes + 1
  pub settle_writes : writes (settle_steps changes) ≡ length changes + 1
  pub settle_syncs : syncs (settle_steps changes) ≡ 3
