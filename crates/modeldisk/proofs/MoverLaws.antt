-- What a mover does keeps the promises of a driver, in the order of its sweep.
use Rattle.std.specs.Prelude.{ℕ, ◌≡◌, ◌+◌, ◌*◌, ◌≤◌, ◌<◌, ◌&&◌, ◌||◌, ◌==◌, Bool, true, false, List, length, get_or, slice_get, if◌then◌else◌, Option, Some, None, IfSome, IsSomeAnd, Result, Ok, Err}
use Rattle.std.proofs.Common.{inl, inr, refl, sym, ◌∙◌, ap, subst, arith}
use Rattle.std.proofs.Math.Nat.{mul-mod_right}
use Rattle.std.proofs.lemmas.Bool.{cases_lt}
use Rattle.std.proofs.lemmas.Option.{slice_get-get_or, slice_get_past}
use Rattle.errno.specs.declared.Errno.{Errno}
use Rattle.errno.specs.declared.Errno.TheVariants.{EINVAL}
use Rattle.message.specs.declared.Kind.{Kind}
use Rattle.message.specs.declared.Kind.TheVariants.{Read, Write}
use Rattle.message.specs.Good.{is_good, is_write}
use Rattle.media.specs.Contents.{MediaState}
use Rattle.media.specs.Table.{ranges_of}
use Rattle.bdev.specs.declared.Run.{Run}
use Rattle.bdev.specs.declared.Step.TheVariants.{Working, Done}
use Rattle.bdev.specs.DriverState.{Work, Ranges, plan}
use Rattle.bdev.specs.Promises.{IsDriver, IsOfAWrite, StepKeeps, MovesSector, MayAnswer, EndsBy, requests_in_work}
use Rattle.modeldisk.specs.declared.sector_mover.mover.Mover.{Mover}
use Rattle.modeldisk.specs.Order.{order_of, order_in}
use Rattle.modeldisk.specs.Transfer.{TransfersIf}
use Rattle.modeldisk.specs.Mover.{IsFew, MovesNext, ended, moved_in, order, run_of, state_of, work_of}
use Rattle.modeldisk.proofs.OrderLaws.{length-order_of, in_run, all_moved, moved_more}
use Rattle.modeldisk.proofs.PromiseLaws.{StepKeeps-still, StepKeeps-moved, moves_bytes, bears_own}

-- past the last sector there is no next one
pub next_past : (from : ℕ) (o : Option Run) (run : Run) (i : ℕ) → o ≡ Some run → run.count ≤ i → slice_get (order_in from o) i ≡ None
next_past from o run i is past =
    let l : length (order_of from run) ≡ run.count = length-order_of from run in
    rw is (slice_get_past (order_of from run) i (omega arith))

-- before that there is
pub next_some : (from : ℕ) (o : Option Run) (run : Run) (i : ℕ) → o ≡ Some run → i < run.count → slice_get (order_in from o) i ≡ Some (get_or (order_of from run) i 0)
next_some from o run i is less =
    let l : length (order_of from run) ≡ run.count = length-order_of from run in
    rw is (slice_get-get_or (order_of from run) i 0 (omega arith))

-- each sector of the order is one of the run
next_in_run : (from : ℕ) (o : Option Run) (i : ℕ) → IfSome (slice_get (order_in from o) i) (λ s. IsSomeAnd o (λ run. (run.first ≤ s) × (s < run.first + run.count)))
next_in_run from None i = tt
next_in_run from (Some run) i = elim (cases_lt i run.count) [
  | inl less ↦ rw (next_some from (Some run) run i refl less) (in_run from run i less)
  | inr past ↦ rw (next_past from (Some run) run i refl past) tt
]

-- a sector is named only of a write in work
names_own : (busy : Bool) (kind : Kind) (ranges : Ranges) (w : Work) (o : Option ℕ) → w.request.kind ≡ kind
    → IfSome o (λ s. IsSomeAnd (plan ranges w.request) (λ run. (run.first ≤ s) × (s < run.first + run.count)))
    → IfSome (if busy && is_write kind then o else None) (IsOfAWrite ranges (if busy then Some w else None))
names_own false kind ranges w o is h = tt
names_own true Read ranges w o is h = tt
names_own true Write ranges w None is h = tt
names_own true Write ranges w (Some s) is h = (is, h)

-- the request in work counts as one
few_in_work : (busy : Bool) (w : Work) (bad last : ℕ) → bad + (if busy then 1 else 0) ≤ last → bad + requests_in_work (if busy then Some w else None) ≤ last
few_in_work true w bad last h = h
few_in_work false w bad last h = h

-- a mover is a driver
pub is_driver : (d : Mover) → IsFew d → IsDriver (state_of d)
is_driver d few = record {
  bad_is_few = few_in_work d.busy (work_of d) d.bad d.last few;
  names_its_own = names_own d.busy d.request.kind (ranges_of d.table) (work_of d) (slice_get (order d) d.done) refl (next_in_run d.from (run_of d) d.done);
}

-- the request in work is there
work_is : (d : Mover) → d.busy ≡ true → (state_of d).work ≡ Some (work_of d)
work_is d busy = rw busy refl

-- the sector that a write names is the next one
names_next : (busy : Bool) (kind : Kind) (from : ℕ) (o : Option Run) (run : Run) (done : ℕ) → busy ≡ true → kind ≡ Write → o ≡ Some run → done < run.count
    → (if busy && is_write kind then slice_get (order_in from o) done else None) ≡ Some (get_or (order_of from run) done 0)
names_next busy kind from o run done b k is less = rw (b, k) (next_some from o run done is less)

-- the mover after its next sector, at place `number` in the request, was moved
abbrev pub after : Mover → Run → ℕ → List ℕ → Mover
after b run number got = record b { done = b.done + 1; arm = run.first + number + 1; got = got }

-- the next sector is moved
moves_sector : (b : Mover) (run : Run) (number : ℕ) (got : List ℕ) (m : MediaState) (g : ℕ) (m' : MediaState)
    → b.busy ≡ true → run_of b ≡ Some run → b.done < run.count → get_or (order_of b.from run) b.done 0 ≡ run.first + number → number < run.count
    → TransfersIf true b.request.kind b.request.bytes b.got m g (run.first + number) number got m'
    → MovesSector (state_of b) (work_of b) m g (work_of (after b run number got)) m'
moves_sector b run number got m g m' busy is less at within t = record {
  run = run;
  number = number;
  next = record {
    plan = is;
    within = within;
    named = λ write. names_next b.busy b.request.kind b.from (run_of b) run b.done busy write is less ∙ ap Some at;
  };
  accepted = t.0;
  same_request = refl;
  moved = λ k. let P : Option Run → Type 0 = λ o. moved_in b.from (b.done + 1) o k ≡ (moved_in b.from b.done o k || (k == number)) in
      subst P (sym is) (moved_more b.from run b.done number k less at);
  bytes = moves_bytes b.request.kind (work_of b) m g (run.first + number) number (work_of (after b run number got)) m' t.1;
}

-- the answer of the request in work, in the mover d that b became
ends_by : (b d : Mover) (outcome : Result ℕ Errno) → d.bad ≡ b.bad → d.failed ≡ b.failed → MayAnswer (plan (ranges_of b.table) d.request) (work_of d) outcome d.got
    → EndsBy (state_of b) (work_of d) (record { id = d.request.id; outcome = outcome; bytes = d.got }) (state_of (ended outcome d))
ends_by b d outcome bad failed may = record {
  ended = refl;
  same_failed = failed;
  id = refl;
  answers = may;
  counts = ap (λ n. n + (if is_good d.request.count outcome then 0 else 1)) bad;
}

-- all bytes of the run, once all its sectors were moved
may_whole : (d : Mover) (run : Run) → run_of d ≡ Some run → run.count ≤ d.done → MayAnswer (run_of d) (work_of d) (Ok (512 * run.count)) d.got
may_whole d run is all =
    let P : Option Run → Type 0 = λ o. MayAnswer o (record { request = d.request; moved = moved_in d.from d.done o; got = d.got }) (Ok (512 * run.count)) d.got in
    subst P (sym is) (record {
      whole = mul-mod_right 512 run.count;
      within = omega arith;
      moved = λ k less. all_moved d.from run d.done k all (omega arith);
      bears = bears_own d.request.kind d.got (512 * run.count);
    })

-- EINVAL, where there is no run
may_refuse : (d : Mover) → run_of d ≡ None → MayAnswer (run_of d) (work_of d) (Err EINVAL) d.got
may_refuse d is =
    let P : Option Run → Type 0 = λ o. MayAnswer o (work_of d) (Err EINVAL) d.got in
    subst P (sym is) refl

-- a step that only answers
pub keeps_answer : (b : Mover) (outcome : Result ℕ Errno) (m : MediaState) (g : ℕ) → b.busy ≡ true → MayAnswer (run_of b) (work_of b) outcome b.got
    → StepKeeps (state_of b) m g (Done (record { id = b.request.id; outcome = outcome; bytes = b.got })) (state_of (ended outcome b)) m
keeps_answer b outcome m g busy may =
    StepKeeps-still (state_of b) m g (Done (record { id = b.request.id; outcome = outcome; bytes = b.got })) (state_of (ended outcome b)) (work_of b) (work_is b busy) refl refl
    (ends_by b b outcome refl refl may)

-- the step of a request without a run
pub keeps_unsound : (b : Mover) (m : MediaState) (g : ℕ) → b.busy ≡ true → run_of b ≡ None
    → StepKeeps (state_of b) m g (Done (record { id = b.request.id; outcome = Err EINVAL; bytes = b.got })) (state_of (ended (Err EINVAL) b)) m
keeps_unsound b m g busy is = keeps_answer b (Err EINVAL) m g busy (may_refuse b is)

-- the step of a request without sectors
pub keeps_empty : (b : Mover) (run : Run) (m : MediaState) (g : ℕ) → b.busy ≡ true → run_of b ≡ Some run → run.count ≤ b.done
    → StepKeeps (state_of b) m g (Done (record { id = b.request.id; outcome = Ok (512 * run.count); bytes = b.got })) (state_of (ended (Ok (512 * run.count)) b)) m
keeps_empty b run m g busy is all = keeps_answer b (Ok (512 * run.count)) m g busy (may_whole b run is all)

-- a step that moves a sector, and works on
pub keeps_working : (b : Mover) (run : Run) (m : MediaState) (g : ℕ) (a : Mover) (m' : MediaState)
    → b.busy ≡ true → run_of b ≡ Some run → b.done < run.count → MovesNext run b m g true a m' → StepKeeps (state_of b) m g Working (state_of a) m'
keeps_working b run m g a m' busy is less next =
    let P : Mover → Type 0 = λ x. StepKeeps (state_of b) m g Working (state_of x) m' in
    let x : Mover = after b run next.number a.got in
    subst P (sym next.after)
    (StepKeeps-moved (state_of b) m g Working (state_of x) m' (work_of b) (work_of x) (work_is b busy) refl refl
    (moves_sector b run next.number a.got m g m' busy is less next.at next.within next.transfers)
    (record { stays = work_is x busy; failed_is = refl; same_bad = refl }))

-- a step that moves the last sector, and answers
pub keeps_last : (b : Mover) (run : Run) (m : MediaState) (g : ℕ) (a : Mover) (m' : MediaState)
    → b.busy ≡ true → run_of b ≡ Some run → b.done < run.count → MovesNext run b m g true a m' → run.count ≤ a.done
    → StepKeeps (state_of b) m g (Done (record { id = a.request.id; outcome = Ok (512 * run.count); bytes = a.got })) (state_of (ended (Ok (512 * run.count)) a)) m'
keeps_last b run m g a m' busy is less next all =
    let outcome : Result ℕ Errno = Ok (512 * run.count) in
    let P : Mover → Type 0 = λ x. run.count ≤ x.done → StepKeeps (state_of b) m g (Done (record { id = x.request.id; outcome = outcome; bytes = x.got })) (state_of (ended outcome x)) m' in
    let x : Mover = after b run next.number a.got in
    (subst P (sym next.after)
    (λ whole. StepKeeps-moved (state_of b) m g (Done (record { id = x.request.id; outcome = outcome; bytes = x.got })) (state_of (ended outcome x)) m' (work_of b) (work_of x) (work_is b busy) refl refl
    (moves_sector b run next.number a.got m g m' busy is less next.at next.within next.transfers)
    (ends_by b x outcome refl refl (may_whole x run is whole)))) all
