-- The order in which a request's sectors are moved.
use Rattle.std.specs.Prelude.{ℕ, ◌+◌, ◌-◌, ◌*◌, ◌≡◌, Bool, true, false, List, [], ◌∷◌, ◌++◌, min, MatchBool, Option, Some, None, Result, Ok, Err, if◌then◌else◌}
use Rattle.std.specs.List.{range_with_len}
use Rattle.errno.specs.declared.Errno.{Errno}
use Rattle.errno.specs.declared.Errno.TheVariants.{EINVAL}
use Rattle.media.specs.Contents.{MediaState, accepts}
use Rattle.bdev.specs.declared.Run.{Run}
use Rattle.bdev.specs.declared.Step.{Step}
use Rattle.bdev.specs.declared.Step.TheVariants.{Working, Idle, Done, Failed}

-- how many sectors of a run lie below the arm
abbrev pub below : ℕ → Run → ℕ
below arm run = min (arm - run.first) run.count

-- a run's sectors as an arm moves them: first those not below it, rising, then those below it, rising
abbrev pub order_of : ℕ → Run → List ℕ
order_of arm run = range_with_len (run.first + below arm run) (run.count - below arm run) ++ range_with_len run.first (below arm run)

-- the same for the run that a request has, if it has one
abbrev pub order_in : ℕ → Option Run → List ℕ
order_in arm None = []
order_in arm (Some run) = order_of arm run

-- what a request is answered in the end: EINVAL where it has no run, else the bytes of its run
abbrev pub whole_outcome : Option Run → Result ℕ Errno
whole_outcome None = Err EINVAL
whole_outcome (Some run) = Ok (512 * run.count)

-- the arm after a step, given the sectors that were still to be moved: after the sector that was moved, if one was
abbrev pub arm_after : List ℕ → MediaState → ℕ → ℕ → ℕ
arm_after [] m g arm = arm
arm_after (s ∷ left) m g arm = if accepts m g s then s + 1 else arm

-- a step answers with this outcome
abbrev pub AnswersWith : Result ℕ Errno → Step → Type 0
AnswersWith outcome (Done answer) = answer.outcome ≡ outcome
AnswersWith outcome Working = ⊥
AnswersWith outcome Idle = ⊥
AnswersWith outcome Failed = ⊥

-- a step that leaves these sectors to be moved: it works on, or answers where none is left
abbrev pub GoesOnWith : List ℕ → Result ℕ Errno → Step → Type 0
GoesOnWith [] outcome step = AnswersWith outcome step
GoesOnWith (s ∷ left) outcome step = step ≡ Working

-- a step, given whether a request is in work and its sectors still to be moved: the first of them is moved where the media
-- accept it; the step that moves the last one answers, as does the step of a request that has none
abbrev pub StepsInOrder : Bool → List ℕ → Result ℕ Errno → MediaState → ℕ → Step → List ℕ → Type 0
StepsInOrder false left outcome m g step left' = (step ≡ Idle) × (left' ≡ [])
StepsInOrder true [] outcome m g step left' = AnswersWith outcome step × (left' ≡ [])
StepsInOrder true (s ∷ left) outcome m g step left' =
    MatchBool (accepts m g s) (GoesOnWith left outcome step × (left' ≡ left)) ((step ≡ Failed) × (left' ≡ s ∷ left))
