-- The places of open writes are unsure.
use Rattle.std.proofs.Common.{◌≡◌, ◌⊎◌, ℕ, ◌+◌, ◌<◌, ◌≤◌, List, [], ◌∷◌, true, refl, sym, ◌∙◌, ap, subst, inl, inr, arith, Option, Some, None, Result, Ok, Err}
use Rattle.std.proofs.lemmas.Bool.Decides.{nat_tests}
use Rattle.std.specs.Prelude.{nat_lt, nat_le, ◌==◌, ◌&&◌, ◌||◌, not, ◌%◌}
use Rattle.lemmas.proofs.Options.{cond_some}
use Rattle.lemmas.proofs.Numbers.{outside_fails}
use Rattle.lemmas.proofs.Bools.{and_both, and_left, and_right, or_left, or_right}
use Rattle.errno.specs.declared.Errno.{Errno}
use Rattle.message.specs.Good.{is_write, moved}
use Rattle.message.specs.declared.BlockRequest.{BlockRequest}
use Rattle.records.specs.Marks.{Mark, Issued, Started, Answered, Flush, GaveUp, Took, Fault}
use Rattle.records.specs.Open.{greatest, open_requests, with_id, moved_of, Misses, IsIn, IsWellFormed}
use Rattle.records.specs.Disk.{unsure, covers, settles}
use Rattle.records.proofs.OpenRequests.{open_after_issue, open_answered, open_misses}

-- what was moved is at most the count, and above 0
pub moved_le : (count n : ℕ) (o : Result ℕ Errno) → moved count o ≡ Some n → (n ≤ count) × (0 < n)
moved_le count n (Ok m) e =
    let h = cond_some ((m % 512 == 0) && nat_lt 0 m && nat_le m count) m n e in
    let le : nat_le m count ≡ true = and_right ((m % 512 == 0) && nat_lt 0 m) (nat_le m count) h.0 in
    let lt : nat_lt 0 m ≡ true = and_right (m % 512 == 0) (nat_lt 0 m) (and_left ((m % 512 == 0) && nat_lt 0 m) (nat_le m count) h.0) in
    let at : m ≡ n = h.1 in
    (grind (arith, nat_tests), grind (arith, nat_tests))
moved_le count n (Err x) e = cc

-- a place that a request covers lies between its ends
pub covers_bounds : (r : BlockRequest) (p : ℕ) → covers r p ≡ true → (r.position ≤ p) × (p < r.position + r.count)
covers_bounds r p t = (grind (arith, nat_tests), grind (arith, nat_tests))

-- each place of an open write is unsure
pub unsure_open : (marks : List Mark) → IsWellFormed marks → (q : BlockRequest) (p : ℕ) → IsIn q (open_requests marks) → is_write q.kind ≡ true → covers q p ≡ true → unsure marks p ≡ true
unsure_open [] w q p i write touch = absurd i
unsure_open (Issued r e ∷ marks) w q p i write touch = at (λ j. unsure_open marks w.0 q p j write touch) ((open_after_issue marks r e w.1.1).only q i) where
  at : (IsIn q (open_requests marks) → unsure marks p ≡ true) → IsIn q (open_requests marks) ⊎ ((q ≡ r) × (r.id ≡ greatest marks + 1)) → unsure (Issued r e ∷ marks) p ≡ true
  at rest (inl j) = or_right (is_write r.kind && covers r p) (unsure marks p) (rest j)
  at rest (inr same) = let P : BlockRequest → Type 0 = λ x. ((is_write x.kind && covers x p) || unsure marks p) ≡ true in
      subst P same.0 (or_left (is_write q.kind && covers q p) (unsure marks p) (and_both (is_write q.kind) (covers q p) write touch))
unsure_open (Answered a ∷ marks) w q p i write touch = at (unsure_open marks w.0 q p (open_answered marks a q i) write touch) (with_id a.id (open_requests marks)) refl (moved_of (with_id a.id (open_requests marks)) a) refl where
  at : unsure marks p ≡ true → (o : Option BlockRequest) → with_id a.id (open_requests marks) ≡ o → (m : Option ℕ) → moved_of (with_id a.id (open_requests marks)) a ≡ m
      → (not (settles (with_id a.id (open_requests marks)) (moved_of (with_id a.id (open_requests marks)) a) p) && unsure marks p) ≡ true
  at before None is m good = rw is before
  at before (Some r) is None good = rw (good, is) before
  at before (Some r) is (Some n) good =
      let m : Misses q r = open_misses marks w.0 a r q n is good i in
      let bounds = covers_bounds q p touch in
      let few : n ≤ r.count = (moved_le r.count n a.outcome (ap (λ (x : Option BlockRequest). moved_of x a) (sym is) ∙ good)).0 in
      let out : (p < r.position) ⊎ (r.position + n ≤ p) = elim m.apart [ inl h ↦ inl (omega (arith, h, bounds.0, bounds.1)) | inr h ↦ inr (omega (arith, h, few, bounds.0, bounds.1)) ] in
      rw (good, is, outside_fails (is_write r.kind) r.position n p out) before
unsure_open (Started e ∷ marks) w q p i write touch = unsure_open marks w.0 q p i write touch
unsure_open (Flush ∷ marks) w q p i write touch = unsure_open marks w.0 q p i write touch
unsure_open (GaveUp ∷ marks) w q p i write touch = unsure_open marks w.0 q p i write touch
unsure_open (Took who now call said ∷ marks) w q p i write touch = unsure_open marks w.0 q p i write touch
unsure_open (Fault e cause ∷ marks) w q p i write touch = unsure_open marks w.0 q p i write touch

-- what was moved is the number of the outcome
pub moved_is : (count n : ℕ) (o : Result ℕ Errno) → moved count o ≡ Some n → o ≡ Ok n
moved_is count n (Ok m) e = ap (λ (x : ℕ). Ok x) ((cond_some ((m % 512 == 0) && nat_lt 0 m && nat_le m count) m n e).1)
moved_is count n (Err x) e = cc
