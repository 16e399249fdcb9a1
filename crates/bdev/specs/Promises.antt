-- What every driver promises, as relations between its states and those of the media before and after a call.
use Rattle.std.specs.Prelude.{ℕ, ◌≡◌, ◌≢◌, ◌<◌, ◌≤◌, ◌+◌, ◌*◌, ◌%◌, ◌==◌, ◌||◌, ◌⊎◌, Bool, true, false, List, IsTrue, if◌then◌else◌}
use Rattle.std.specs.Prelude.{Option, Some, None, IfSome, IsSomeAnd, Result, Ok, Err}
use Rattle.message.specs.Good.{is_good}
use Rattle.media.specs.Contents.{MediaState, sector, written, accepts}
use Rattle.message.specs.declared.BlockRequest.{BlockRequest}
use Rattle.message.specs.declared.Kind.{Kind}
use Rattle.message.specs.declared.Kind.TheVariants.{Read, Write}
use Rattle.errno.specs.declared.Errno.{Errno}
use Rattle.errno.specs.declared.Errno.TheVariants.{EINVAL}
use Rattle.bdev.specs.declared.Accept.{Accept}
use Rattle.bdev.specs.declared.Accept.TheVariants.{Taken, Busy, Old}
use Rattle.bdev.specs.declared.Answer.{Answer}
use Rattle.bdev.specs.declared.Step.{Step}
use Rattle.bdev.specs.declared.Step.TheVariants.{Working, Idle, Done, Failed}
use Rattle.bdev.specs.declared.Run.{Run}
use Rattle.bdev.specs.DriverState.{DriverState, Work, Ranges, plan, chunk}

-- how many requests are in work: 1 or none
abbrev pub requests_in_work : Option Work → ℕ
requests_in_work None = 0
requests_in_work (Some w) = 1

-- sector s of the media is one of those of a write in work
abbrev pub IsOfAWrite : Ranges → Option Work → ℕ → Type 0
IsOfAWrite ranges None s = ⊥
IsOfAWrite ranges (Some w) s = (w.request.kind ≡ Write) × IsSomeAnd (plan ranges w.request) (λ run. (run.first ≤ s) × (s < run.first + run.count))

-- what holds of a driver at any time: at most one answer for each request taken, and it names a sector of a write in work
pub record IsDriver (d : DriverState) : Type 0 where
  pub bad_is_few : d.bad + requests_in_work d.work ≤ d.last
  pub names_its_own : IfSome d.in_work (IsOfAWrite d.ranges d.work)

-- a request is taken: it is in work, and none of its sectors was moved
pub record Takes (b : DriverState) (q : BlockRequest) (a : DriverState) : Type 0 where
  pub same_ranges : a.ranges ≡ b.ranges
  pub last : a.last ≡ q.id
  pub work : IsSomeAnd a.work (λ w. (w.request ≡ q) × ((k : ℕ) → w.moved k ≡ false))
  pub same_bad : a.bad ≡ b.bad
  pub same_failed : a.failed ≡ b.failed

-- what `accept` answers, and the driver after it
abbrev pub AcceptKeeps : DriverState → BlockRequest → Accept → DriverState → Type 0
AcceptKeeps b q Taken a = (b.work ≡ None) × (b.last < q.id) × Takes b q a
AcceptKeeps b q Busy a = (b.work ≢ None) × (a ≡ b)
AcceptKeeps b q Old a = (b.work ≡ None) × (q.id ≤ b.last) × (a ≡ b)

-- the j-th sector of the request in work, as the next one to move: that of a write is the one that was named
pub record IsNext (b : DriverState) (w : Work) (run : Run) (j : ℕ) : Type 0 where
  pub plan : plan b.ranges w.request ≡ Some run
  pub within : j < run.count
  pub named : w.request.kind ≡ Write → b.in_work ≡ Some (run.first + j)

-- sector s of the media and the j-th 512 bytes: a read brings them into what it has, a write puts the request's there
abbrev pub MovesBytes : Kind → Work → MediaState → ℕ → ℕ → ℕ → Work → MediaState → Type 0
MovesBytes Read w m g s j w' m' = (m' ≡ m) × (chunk j w'.got ≡ sector m s) × ((k : ℕ) → k ≢ j → chunk k w'.got ≡ chunk k w.got)
MovesBytes Write w m g s j w' m' = m' ≡ written m g s (chunk j w.request.bytes)

-- nothing is moved
pub record MovesNothing (w : Work) (m : MediaState) (w' : Work) (m' : MediaState) : Type 0 where
  pub same_work : w' ≡ w
  pub same_media : m' ≡ m

-- the media accept the next sector, and it is moved
pub record MovesSector (b : DriverState) (w : Work) (m : MediaState) (g : ℕ) (w' : Work) (m' : MediaState) : Type 0 where
  pub run : Run
  pub number : ℕ
  pub next : IsNext b w run number
  pub accepted : accepts m g (run.first + number) ≡ true
  pub same_request : w'.request ≡ w.request
  pub moved : (k : ℕ) → w'.moved k ≡ (w.moved k || (k == number))
  pub bytes : MovesBytes w.request.kind w m g (run.first + number) number w' m'

-- A step moves nothing, or one sector that the media accept. A step that they refused moves nothing, as one that didn't call them: from
-- outside the two are the same, so that the first answers Failed is asked of no driver here. The drivers over media promise it themselves.
abbrev pub MovesAtMostOne : DriverState → Work → MediaState → ℕ → Work → MediaState → Type 0
MovesAtMostOne b w m g w' m' = MovesNothing w m w' m' ⊎ MovesSector b w m g w' m'

-- an answer to a read bears, in its first n bytes, those that the read has
abbrev pub BearsBytes : Kind → List ℕ → List ℕ → ℕ → Type 0
BearsBytes Read got bytes n = (k : ℕ) → 512 * k < n → chunk k bytes ≡ chunk k got
BearsBytes Write got bytes n = Unit {0}

-- n bytes in whole sectors, not past the planned ones, and each of them was moved
pub record IsMoved (run : Run) (w : Work) (n : ℕ) (bytes : List ℕ) : Type 0 where
  pub whole : n % 512 ≡ 0
  pub within : n ≤ 512 * run.count
  pub moved : (k : ℕ) → 512 * k < n → IsTrue (w.moved k)
  pub bears : BearsBytes w.request.kind w.got bytes n

-- the outcomes that an answer may have: EINVAL alone where there is no plan; else an error, or a number of bytes that were moved
abbrev pub MayAnswer : Option Run → Work → Result ℕ Errno → List ℕ → Type 0
MayAnswer None w outcome bytes = outcome ≡ Err EINVAL
MayAnswer (Some run) w (Err _) bytes = Unit {0}
MayAnswer (Some run) w (Ok n) bytes = IsMoved run w n bytes

-- the request in work ends with this answer
pub record EndsBy (b : DriverState) (w : Work) (answer : Answer) (a : DriverState) : Type 0 where
  pub ended : a.work ≡ None
  pub same_failed : a.failed ≡ b.failed
  pub id : answer.id ≡ w.request.id
  pub answers : MayAnswer (plan b.ranges w.request) w answer.outcome answer.bytes
  pub counts : a.bad ≡ b.bad + (if is_good w.request.count answer.outcome then 0 else 1)

-- the request stays in work
pub record GoesOn (b : DriverState) (w : Work) (failed : Bool) (a : DriverState) : Type 0 where
  pub stays : a.work ≡ Some w
  pub failed_is : a.failed ≡ failed
  pub same_bad : a.bad ≡ b.bad

-- what a step answers, w being the request in work with what the step moved
abbrev pub Says : DriverState → Work → Step → DriverState → Type 0
Says b w Working a = GoesOn b w b.failed a
Says b w Failed a = GoesOn b w true a
Says b w (Done answer) a = EndsBy b w answer a
Says b w Idle a = ⊥

-- what a step answers while no request is in work
abbrev pub SaysIdle : DriverState → Step → DriverState → Type 0
SaysIdle b Idle a = a ≡ b
SaysIdle b Failed a = a ≡ record b { failed = true }
SaysIdle b Working a = ⊥
SaysIdle b (Done answer) a = ⊥

-- a step, by the request in work
abbrev pub StepsAt : DriverState → Option Work → MediaState → ℕ → Step → DriverState → MediaState → Type 0
StepsAt b None m g step a m' = (m' ≡ m) × SaysIdle b step a
StepsAt b (Some w) m g step a m' = (w' : Work) × MovesAtMostOne b w m g w' m' × Says b w' step a

-- what a step under generation g does to the driver and the media
pub record StepKeeps (b : DriverState) (m : MediaState) (g : ℕ) (step : Step) (a : DriverState) (m' : MediaState) : Type 0 where
  pub same_ranges : a.ranges ≡ b.ranges
  pub same_last : a.last ≡ b.last
  pub steps : StepsAt b b.work m g step a m'
