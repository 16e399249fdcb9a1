-- The least number that passes, from the first for which a test answered true.
use Rattle.std.proofs.Common.{◌≡◌, ◌<◌, ◌≤◌, ℕ, zero, suc, Bool, true, false, sym, ap, ◌∙◌, arith}
use mathlib.Core.Logic.{inl, inr}
use Rattle.std.specs.Prelude.{Option, None, Some}
use Rattle.std.proofs.lemmas.Bool.{cases_lt, cond-true, cond-false}
use Rattle.lemmas.specs.Sums.{some_below, least_below}
use Rattle.volume.proofs.Sums.{some_from, none_from}
use Rattle.image.specs.Least.{least_of, IsFirst}

-- the least number that passes, where those before it don't
pub least_at : (p : ℕ → Bool) (n m : ℕ) → m < n → p m ≡ true → ((k : ℕ) → k < m → p k ≡ false) → least_below p n ≡ m
unfolding least_below
least_at p zero m h is before = absurd (omega arith)
least_at p (suc n) m h is before = elim (cases_lt m n) [
  | inl low ↦ cond-true (some_below p n) _ _ (some_from p n m low is) ∙ least_at p n m low is before
  | inr last ↦
      let e : n ≡ m = omega arith in
      let none : some_below p n ≡ false = none_from p n (λ k l. before k (omega arith)) in
      cond-false (some_below p n) _ _ none ∙ cond-true (p n) n (suc n) (ap p e ∙ is) ∙ e
]

-- so it is the least of all
pub some_least : (p : ℕ → Bool) (n m : ℕ) → m < n → p m ≡ true → ((k : ℕ) → k < m → p k ≡ false) → Some m ≡ least_of p n
some_least p n m h is before = sym (cond-true (some_below p n) _ None (some_from p n m h is) ∙ ap Some (least_at p n m h is before))

-- and there is none where none passes
pub none_least : (p : ℕ → Bool) (n : ℕ) → ((k : ℕ) → k < n → p k ≡ false) → None ≡ least_of p n
none_least p n none = sym (cond-false (some_below p n) (Some (least_below p n)) None (none_from p n none))

-- the first number for which a test answers true is the least that passes, where it answers whether a number passes and none past the end does
pub first_least : (answers : ℕ → Bool → Type 0) (end : ℕ) (r : Option ℕ) → IsFirst answers end r → (p : ℕ → Bool) (limit : ℕ) → end ≤ limit
    → ((k : ℕ) (b : Bool) → k < end → answers k b → p k ≡ b) → ((k : ℕ) → end ≤ k → p k ≡ false) → r ≡ least_of p limit
first_least answers end None first p limit most same past =
    none_least p limit (λ k h. elim (cases_lt k end) [ inl low ↦ same k false low (first.before k low) | inr high ↦ past k high ])
first_least answers end (Some m) first p limit most same past =
    let found = first.found in
    some_least p limit m (omega (arith, found.0)) (same m true found.0 found.1) (λ k h. same k false (omega (arith, found.0)) (first.before k h))
