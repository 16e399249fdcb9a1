-- What the faults of a script do.
use Rattle.std.specs.Prelude.{ℕ, ◌≡◌, ◌*◌, ◌<◌, Bool, true, false, IsTrue, Option, Some, None, Ok, Err}
use Rattle.media.specs.Contents.{MediaState}
use Rattle.bdev.specs.declared.Run.{Run}
use Rattle.bdev.specs.declared.Step.{Step}
use Rattle.bdev.specs.declared.Step.TheVariants.{Working, Failed}
use Rattle.modeldisk.specs.declared.sector_mover.mover.Mover.{Mover}
use Rattle.modeldisk.specs.declared.fault.FaultKind.{FaultKind}
use Rattle.modeldisk.specs.declared.fault.FaultKind.TheVariants.{Die, Hang, Short, Error}
use Rattle.modeldisk.specs.Order.{AnswersWith, StepsInOrder}
use Rattle.modeldisk.specs.Mover.{left_of, moved_in, outcome_of, run_of}

-- the step is that of a driver without faults
abbrev pub StepsOn : Mover → MediaState → ℕ → Step → Mover → Type 0
StepsOn b m g step a = StepsInOrder b.busy (left_of b) (outcome_of b) m g step (left_of a)

-- n leading sectors of the run were moved, and the one after them wasn't
pub record IsLeading (b : Mover) (run : Run) (n : ℕ) : Type 0 where
  pub moved : (k : ℕ) → k < n → IsTrue (moved_in b.from b.done (Some run) k)
  pub next : n < run.count → moved_in b.from b.done (Some run) n ≡ false

-- the request in work is answered with the bytes of its leading sectors
pub record AnswersLeading (b : Mover) (run : Run) (step : Step) : Type 0 where
  pub sectors : ℕ
  pub leading : IsLeading b run sectors
  pub answers : AnswersWith (Ok (512 * sectors)) step

-- what a fault does to a request in work, given its run; Short and Error do nothing where it has none
abbrev pub PlaysFault : FaultKind → Option Run → Mover → MediaState → ℕ → Step → Mover → Type 0
PlaysFault Die o b m g step a = (step ≡ Failed) × (a ≡ record b { failed = true })
PlaysFault Hang o b m g step a = (step ≡ Working) × (a ≡ b)
PlaysFault Short None b m g step a = StepsOn b m g step a
PlaysFault Short (Some run) b m g step a = AnswersLeading b run step
PlaysFault (Error e) None b m g step a = StepsOn b m g step a
PlaysFault (Error e) (Some run) b m g step a = AnswersWith (Err e) step

-- a step of a mover with this fault due, or none
abbrev pub StepsBy : Bool → Option FaultKind → Mover → MediaState → ℕ → Step → Mover → Type 0
StepsBy false due b m g step a = StepsOn b m g step a
StepsBy true None b m g step a = StepsOn b m g step a
StepsBy true (Some kind) b m g step a = PlaysFault kind (run_of b) b m g step a
