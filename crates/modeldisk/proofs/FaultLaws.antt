-- What faults do keeps the promises of a driver.
use Rattle.std.specs.Prelude.{ℕ, ◌≡◌, ◌≢◌, ◌+◌, ◌-◌, ◌*◌, ◌≤◌, ◌<◌, ◌==◌, true, false, List, [], ◌∷◌, length, take, get_or, Option, Some, Ok, Err}
use Rattle.std.specs.List.{list_any}
use Rattle.std.proofs.Common.{inl, inr, suc, refl, sym, ◌∙◌, subst, arith}
use Rattle.std.proofs.Math.Nat.{mul-mod_right}
use Rattle.std.proofs.lemmas.Bool.{cases_lt}
use Rattle.std.proofs.lemmas.Bool.Decides.{nat_tests}
use Rattle.std.proofs.lemmas.List.{get_or-take, length-take}
use Rattle.std.proofs.lemmas.List.Folds.{list_any_at}
use Rattle.errno.specs.declared.Errno.{Errno}
use Rattle.media.specs.Contents.{MediaState}
use Rattle.bdev.specs.declared.Run.{Run}
use Rattle.bdev.specs.declared.Step.TheVariants.{Done}
use Rattle.bdev.specs.Promises.{StepKeeps, MayAnswer}
use Rattle.modeldisk.specs.declared.sector_mover.mover.Mover.{Mover}
use Rattle.modeldisk.specs.Order.{below, order_of}
use Rattle.modeldisk.specs.Mover.{ended, moved_in, run_of, state_of, work_of}
use Rattle.modeldisk.specs.Faults.{IsLeading}
use Rattle.modeldisk.proofs.OrderLaws.{length-order_of, order_high, order_low, all_moved}
use Rattle.modeldisk.proofs.PromiseLaws.{bears_own}
use Rattle.modeldisk.proofs.MoverLaws.{keeps_answer}

-- a sector that has a place among the first n was moved
moved_at : (arm : ℕ) (run : Run) (n i k : ℕ) → i < n → i < run.count → get_or (order_of arm run) i 0 ≡ run.first + k
    → list_any (λ s. s == run.first + k) (take n (order_of arm run)) ≡ true
moved_at arm run n i k within less at =
    let l : length (order_of arm run) ≡ run.count = length-order_of arm run in
    let there : get_or (take n (order_of arm run)) i 0 ≡ run.first + k = get_or-take n (order_of arm run) i 0 within ∙ at in
    list_any_at (λ s. s == run.first + k) (take n (order_of arm run)) i 0 (omega (arith, length-take n (order_of arm run))) (grind (arith, nat_tests))

-- a number at no place is none of the list's
none_is : (xs : List ℕ) (x : ℕ) → ((i : ℕ) → i < length xs → get_or xs i 0 ≢ x) → list_any (λ s. s == x) xs ≡ false
none_is [] x differs = refl
none_is (y ∷ xs) x differs =
    let here : (y == x) ≡ false = differ (differs 0 (omega arith)) in
    rw here (none_is xs x (λ i less e. differs (suc i) (omega arith) e))
  where
    differ : y ≢ x → (y == x) ≡ false
    differ other = grind (arith, nat_tests)

-- a sector that has no place among the first n was not moved
not_moved_at : (arm : ℕ) (run : Run) (n k : ℕ) → n ≤ run.count → ((i : ℕ) → i < n → get_or (order_of arm run) i 0 ≢ run.first + k)
    → list_any (λ s. s == run.first + k) (take n (order_of arm run)) ≡ false
not_moved_at arm run n k fits differs =
    let l : length (order_of arm run) ≡ run.count = length-order_of arm run in
    none_is (take n (order_of arm run)) (run.first + k)
    (λ i less e. let within : i < n = omega (arith, length-take n (order_of arm run)) in differs i within (sym (get_or-take n (order_of arm run) i 0 within) ∙ e))

-- once all were moved, all lead
pub leading_all : (b : Mover) (run : Run) → run.count ≤ b.done → IsLeading b run run.count
leading_all b run all = record {
  moved = λ k less. all_moved b.from run b.done k all less;
  next = λ less. absurd (omega arith);
}

-- with no sector below the arm, those moved lead
pub leading_rising : (b : Mover) (run : Run) → b.done < run.count → below b.from run ≡ 0 → IsLeading b run b.done
leading_rising b run less none = record {
  moved = λ k more. moved_at b.from run b.done k k more (omega arith) (order_high b.from run k (omega arith) ∙ omega arith);
  next = λ _. not_moved_at b.from run b.done b.done (omega arith)
      (λ i more e. let at : get_or (order_of b.from run) i 0 ≡ run.first + (below b.from run + i) = order_high b.from run i (omega arith) in absurd (omega arith));
}

-- else those lead that were moved after the sweep came to the sectors below the arm
pub leading_swept : (b : Mover) (run : Run) → b.done < run.count → 0 < below b.from run → IsLeading b run (below b.from run + b.done - run.count)
leading_swept b run less some = record {
  moved = λ k more. moved_at b.from run b.done (k + run.count - below b.from run) k (omega arith) (omega arith)
      (order_low b.from run (k + run.count - below b.from run) (omega arith) (omega arith) ∙ omega arith);
  next = λ _. not_moved_at b.from run b.done (below b.from run + b.done - run.count) (omega arith) places;
}
  where
    places : (i : ℕ) → i < b.done → get_or (order_of b.from run) i 0 ≢ run.first + (below b.from run + b.done - run.count)
    places i more e = elim (cases_lt (below b.from run + i) run.count) [
      | inl high ↦ let at : get_or (order_of b.from run) i 0 ≡ run.first + (below b.from run + i) = order_high b.from run i high in absurd (omega arith)
      | inr low ↦ let at : get_or (order_of b.from run) i 0 ≡ run.first + (below b.from run + i - run.count) = order_low b.from run i low (omega arith) in absurd (omega arith)
    ]

-- the bytes of leading sectors may be answered
may_lead : (b : Mover) (run : Run) (n : ℕ) → run_of b ≡ Some run → n ≤ run.count → IsLeading b run n → MayAnswer (run_of b) (work_of b) (Ok (512 * n)) b.got
may_lead b run n is within leading =
    let P : Option Run → Type 0 = λ o. MayAnswer o (record { request = b.request; moved = moved_in b.from b.done o; got = b.got }) (Ok (512 * n)) b.got in
    subst P (sym is) (record {
      whole = mul-mod_right 512 n;
      within = omega arith;
      moved = λ k less. leading.moved k (omega arith);
      bears = bears_own b.request.kind b.got (512 * n);
    })

-- so may an error, where there is a run
may_fail : (b : Mover) (run : Run) (e : Errno) → run_of b ≡ Some run → MayAnswer (run_of b) (work_of b) (Err e) b.got
may_fail b run e is =
    let P : Option Run → Type 0 = λ o. MayAnswer o (work_of b) (Err e) b.got in
    subst P (sym is) tt

-- a short answer
pub keeps_short : (b : Mover) (run : Run) (n : ℕ) (m : MediaState) (g : ℕ) → b.busy ≡ true → run_of b ≡ Some run → n ≤ run.count → IsLeading b run n
    → StepKeeps (state_of b) m g (Done (record { id = b.request.id; outcome = Ok (512 * n); bytes = b.got })) (state_of (ended (Ok (512 * n)) b)) m
keeps_short b run n m g busy is within leading = keeps_answer b (Ok (512 * n)) m g busy (may_lead b run n is within leading)

-- an error
pub keeps_error : (b : Mover) (run : Run) (e : Errno) (m : MediaState) (g : ℕ) → b.busy ≡ true → run_of b ≡ Some run
    → StepKeeps (state_of b) m g (Done (record { id = b.request.id; outcome = Err e; bytes = b.got })) (state_of (ended (Err e) b)) m
keeps_error b run e m g busy is = keeps_answer b (Err e) m g busy (may_fail b run e is)
