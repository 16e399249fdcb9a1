-- A mover's steps go on in the order of its sweep.
use Rattle.std.specs.Prelude.{ℕ, ◌≡◌, ◌+◌, ◌*◌, ◌≤◌, ◌<◌, Bool, true, false, List, [], ◌∷◌, length, drop, get_or, Some, None, Result, Ok, Err}
use Rattle.std.proofs.Common.{refl, sym, ◌∙◌, ap, arith, suc, add-one}
use Rattle.std.proofs.Math.Seq.{drop-cons}
use Rattle.std.proofs.Math.ListN.{drop_of_length-le}
use Rattle.errno.specs.declared.Errno.{Errno}
use Rattle.errno.specs.declared.Errno.TheVariants.{EINVAL}
use Rattle.media.specs.Contents.{MediaState, accepts}
use Rattle.bdev.specs.declared.Run.{Run}
use Rattle.bdev.specs.declared.Step.{Step}
use Rattle.bdev.specs.declared.Step.TheVariants.{Working, Done, Failed}
use Rattle.modeldisk.specs.declared.sector_mover.mover.Mover.{Mover}
use Rattle.modeldisk.specs.Order.{order_of, arm_after, AnswersWith, GoesOnWith, StepsInOrder}
use Rattle.modeldisk.specs.Mover.{MovesNext, ended, left_of, outcome_of, run_of}
use Rattle.modeldisk.proofs.OrderLaws.{length-order_of}

-- where none is left, the step answers
steps_ended : (busy : Bool) (left : List ℕ) (outcome : Result ℕ Errno) (m : MediaState) (g : ℕ) (step : Step) (left' : List ℕ)
    → busy ≡ true → left ≡ [] → AnswersWith outcome step → left' ≡ [] → StepsInOrder busy left outcome m g step left'
steps_ended busy left outcome m g step left' b none answers none' = rw (b, none) (answers, none')

-- an accepted sector is moved
steps_moved : (busy : Bool) (left : List ℕ) (outcome : Result ℕ Errno) (m : MediaState) (g : ℕ) (step : Step) (left' : List ℕ) (s : ℕ) (rest : List ℕ)
    → busy ≡ true → left ≡ s ∷ rest → accepts m g s ≡ true → GoesOnWith rest outcome step → left' ≡ rest → StepsInOrder busy left outcome m g step left'
steps_moved busy left outcome m g step left' s rest b is accepted goes is' = rw (b, is, accepted) (goes, is')

-- a refused one is not
steps_refused : (busy : Bool) (left : List ℕ) (outcome : Result ℕ Errno) (m : MediaState) (g : ℕ) (left' : List ℕ) (s : ℕ) (rest : List ℕ)
    → busy ≡ true → left ≡ s ∷ rest → accepts m g s ≡ false → left' ≡ left → StepsInOrder busy left outcome m g Failed left'
steps_refused busy left outcome m g left' s rest b is refused is' = rw (b, is, refused) (refl, is' ∙ is)

-- the arm follows an accepted sector
arm_moved : (left : List ℕ) (m : MediaState) (g arm s : ℕ) (rest : List ℕ) → left ≡ s ∷ rest → accepts m g s ≡ true → arm_after left m g arm ≡ s + 1
arm_moved left m g arm s rest is accepted = rw (is, accepted) refl

-- it stays at a refused one
arm_refused : (left : List ℕ) (m : MediaState) (g arm s : ℕ) (rest : List ℕ) → left ≡ s ∷ rest → accepts m g s ≡ false → arm_after left m g arm ≡ arm
arm_refused left m g arm s rest is refused = rw (is, refused) refl

-- nothing is left of a request without a run
left_none : (b : Mover) → b.busy ≡ true → run_of b ≡ None → left_of b ≡ []
left_none b busy is = rw (busy, is) (drop_of_length-le [] (omega arith))

-- nor where all sectors were moved
left_past : (b : Mover) (run : Run) → b.busy ≡ true → run_of b ≡ Some run → run.count ≤ b.done → left_of b ≡ []
left_past b run busy is all =
    let l : length (order_of b.from run) ≡ run.count = length-order_of b.from run in
    rw (busy, is) (drop_of_length-le (order_of b.from run) (omega arith))

-- else the next one is left, and those after it
left_next : (b : Mover) (run : Run) (number : ℕ) → b.busy ≡ true → run_of b ≡ Some run → b.done < run.count → get_or (order_of b.from run) b.done 0 ≡ run.first + number
    → left_of b ≡ (run.first + number) ∷ drop (b.done + 1) (order_of b.from run)
left_next b run number busy is less at =
    let l : length (order_of b.from run) ≡ run.count = length-order_of b.from run in
    rw (busy, is, add-one) (drop-cons (order_of b.from run) b.done 0 (omega arith) ∙ ap (λ s. s ∷ drop (suc b.done) (order_of b.from run)) at)

-- a step that answers EINVAL
pub unsound_in_order : (b : Mover) (m : MediaState) (g : ℕ) → b.busy ≡ true → run_of b ≡ None
    → StepsInOrder b.busy (left_of b) (outcome_of b) m g (Done (record { id = b.request.id; outcome = Err EINVAL; bytes = b.got })) (left_of (ended (Err EINVAL) b))
unsound_in_order b m g busy is =
    let same : Err EINVAL ≡ outcome_of b = rw is refl in
    steps_ended b.busy (left_of b) (outcome_of b) m g (Done (record { id = b.request.id; outcome = Err EINVAL; bytes = b.got })) [] busy (left_none b busy is) same refl

-- the step of a request without sectors
pub empty_in_order : (b : Mover) (run : Run) (m : MediaState) (g : ℕ) → b.busy ≡ true → run_of b ≡ Some run → run.count ≤ b.done
    → StepsInOrder b.busy (left_of b) (outcome_of b) m g (Done (record { id = b.request.id; outcome = Ok (512 * run.count); bytes = b.got })) (left_of (ended (Ok (512 * run.count)) b))
empty_in_order b run m g busy is all =
    let same : Ok (512 * run.count) ≡ outcome_of b = rw is refl in
    steps_ended b.busy (left_of b) (outcome_of b) m g (Done (record { id = b.request.id; outcome = Ok (512 * run.count); bytes = b.got })) [] busy (left_past b run busy is all) same refl

-- neither moves the arm
pub arm_stays : (b : Mover) (m : MediaState) (g : ℕ) → left_of b ≡ [] → b.arm ≡ arm_after (left_of b) m g b.arm
arm_stays b m g none = rw none refl

-- the step of a request without a run leaves the arm
pub unsound_arm : (b : Mover) (m : MediaState) (g : ℕ) → b.busy ≡ true → run_of b ≡ None → b.arm ≡ arm_after (left_of b) m g b.arm
unsound_arm b m g busy is = arm_stays b m g (left_none b busy is)

-- so does that of one without sectors
pub empty_arm : (b : Mover) (run : Run) (m : MediaState) (g : ℕ) → b.busy ≡ true → run_of b ≡ Some run → run.count ≤ b.done → b.arm ≡ arm_after (left_of b) m g b.arm
empty_arm b run m g busy is all = arm_stays b m g (left_past b run busy is all)

-- a refused sector
pub refused_in_order : (b : Mover) (run : Run) (m : MediaState) (g : ℕ) (a : Mover) (m' : MediaState)
    → b.busy ≡ true → run_of b ≡ Some run → b.done < run.count → MovesNext run b m g false a m'
    → StepsInOrder b.busy (left_of b) (outcome_of b) m g Failed (left_of a)
refused_in_order b run m g a m' busy is less next =
    steps_refused b.busy (left_of b) (outcome_of b) m g (left_of a) (run.first + next.number) (drop (b.done + 1) (order_of b.from run)) busy
    (left_next b run next.number busy is less next.at) next.transfers.0 (ap left_of next.after)

-- it leaves the arm
pub refused_arm : (b : Mover) (run : Run) (m : MediaState) (g : ℕ) (a : Mover) (m' : MediaState)
    → b.busy ≡ true → run_of b ≡ Some run → b.done < run.count → MovesNext run b m g false a m' → a.arm ≡ arm_after (left_of b) m g b.arm
refused_arm b run m g a m' busy is less next =
    ap (λ (x : Mover). x.arm) next.after
    ∙ sym (arm_refused (left_of b) m g b.arm (run.first + next.number) (drop (b.done + 1) (order_of b.from run)) (left_next b run next.number busy is less next.at) next.transfers.0)

-- a moved sector sets the arm
pub moved_arm : (b : Mover) (run : Run) (m : MediaState) (g : ℕ) (a : Mover) (m' : MediaState)
    → b.busy ≡ true → run_of b ≡ Some run → b.done < run.count → MovesNext run b m g true a m' → a.arm ≡ arm_after (left_of b) m g b.arm
moved_arm b run m g a m' busy is less next =
    ap (λ (x : Mover). x.arm) next.after
    ∙ sym (arm_moved (left_of b) m g b.arm (run.first + next.number) (drop (b.done + 1) (order_of b.from run)) (left_next b run next.number busy is less next.at) next.transfers.0)

-- the sectors after the first one of those that are left
left_after : (b : Mover) (run : Run) (m : MediaState) (g : ℕ) (a : Mover) (m' : MediaState)
    → b.busy ≡ true → run_of b ≡ Some run → MovesNext run b m g true a m' → left_of a ≡ drop (b.done + 1) (order_of b.from run)
left_after b run m g a m' busy is next = ap left_of next.after ∙ rw (busy, is) refl

-- with one more left, the step works on
goes_on : (left : List ℕ) (n : ℕ) (outcome : Result ℕ Errno) → n < length left → GoesOnWith (drop n left) outcome Working
goes_on left n outcome less = rw (drop-cons left n 0 less) refl

-- a moved sector that isn't the last
pub working_in_order : (b : Mover) (run : Run) (m : MediaState) (g : ℕ) (a : Mover) (m' : MediaState)
    → b.busy ≡ true → run_of b ≡ Some run → b.done < run.count → MovesNext run b m g true a m' → a.done < run.count
    → StepsInOrder b.busy (left_of b) (outcome_of b) m g Working (left_of a)
working_in_order b run m g a m' busy is less next more =
    let l : length (order_of b.from run) ≡ run.count = length-order_of b.from run in
    let done : a.done ≡ b.done + 1 = ap (λ (x : Mover). x.done) next.after in
    let rest : List ℕ = drop (b.done + 1) (order_of b.from run) in
    steps_moved b.busy (left_of b) (outcome_of b) m g Working (left_of a) (run.first + next.number) rest busy
    (left_next b run next.number busy is less next.at) next.transfers.0
    (goes_on (order_of b.from run) (b.done + 1) (outcome_of b) (omega arith)) (left_after b run m g a m' busy is next)

-- with none left, it answers
answers_at_last : (rest : List ℕ) (outcome : Result ℕ Errno) (step : Step) → rest ≡ [] → AnswersWith outcome step → GoesOnWith rest outcome step
answers_at_last rest outcome step none answers = rw none answers

-- the last sector
pub last_in_order : (b : Mover) (run : Run) (m : MediaState) (g : ℕ) (a : Mover) (m' : MediaState)
    → b.busy ≡ true → run_of b ≡ Some run → b.done < run.count → MovesNext run b m g true a m' → run.count ≤ a.done
    → StepsInOrder b.busy (left_of b) (outcome_of b) m g (Done (record { id = a.request.id; outcome = Ok (512 * run.count); bytes = a.got })) (left_of (ended (Ok (512 * run.count)) a))
last_in_order b run m g a m' busy is less next all =
    let l : length (order_of b.from run) ≡ run.count = length-order_of b.from run in
    let done : a.done ≡ b.done + 1 = ap (λ (x : Mover). x.done) next.after in
    let rest : List ℕ = drop (b.done + 1) (order_of b.from run) in
    let none : rest ≡ [] = drop_of_length-le (order_of b.from run) (omega arith) in
    let answer : Step = Done (record { id = a.request.id; outcome = Ok (512 * run.count); bytes = a.got }) in
    let same : Ok (512 * run.count) ≡ outcome_of b = rw is refl in
    steps_moved b.busy (left_of b) (outcome_of b) m g answer [] (run.first + next.number) rest busy
    (left_next b run next.number busy is less next.at) next.transfers.0
    (answers_at_last rest (outcome_of b) answer none same) (sym none)
