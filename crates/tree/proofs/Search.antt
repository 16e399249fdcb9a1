-- What the searches below a bound find.
use Rattle.std.proofs.Common.{◌≡◌, ◌<◌, ℕ, zero, suc, Bool, true, false, refl, sym, ap, ◌∙◌, arith}
use mathlib.Core.Logic.{inl, inr}
use Rattle.std.specs.Prelude.{◌==◌, Option, None, Some, is_none, Result, Ok, Err}
use Rattle.std.proofs.lemmas.Bool.{cond-true, cond-false, eq-eqb, ne_eqb, cases_eq, cases_Bool, or_cases, or_parts, or_left, or_right}
use Rattle.lemmas.proofs.Bools.{false_not_true}
use Rattle.lemmas.proofs.Options.{none_from}
use Rattle.errno.specs.declared.Errno.{Errno}
use Rattle.lemmas.specs.Sums.{some_below, least_below}
use Rattle.tree.specs.Refusals.{free_place}
use Rattle.lemmas.proofs.Maps.{not_nothing}

-- one number that passes is enough
pub found_below : (p : ℕ → Bool) (n k : ℕ) → k < n → p k ≡ true → some_below p n ≡ true
unfolding some_below
found_below p zero k l h = absurd (omega arith)
found_below p (suc n) k l h = elim (cases_eq k n) [
  | inl e ↦ or_right (some_below p n) (p n) (ap p (sym e) ∙ h)
  | inr d ↦ or_left (some_below p n) (p n) (found_below p n k (omega arith) h)
]

-- and there is one
pub one_below : (p : ℕ → Bool) (n : ℕ) → some_below p n ≡ true → (k : ℕ) × (k < n) × (p k ≡ true)
unfolding some_below
one_below p zero h = absurd (false_not_true h)
one_below p (suc n) h = elim (or_cases (some_below p n) (p n) h) [
  | inl e ↦ let found = one_below p n e in (found.0, omega (arith, found.1), found.2)
  | inr e ↦ (n, omega arith, e)
]

-- the least is one of them
pub least_is_one : (p : ℕ → Bool) (n : ℕ) → some_below p n ≡ true → (least_below p n < n) × (p (least_below p n) ≡ true)
unfolding some_below least_below
least_is_one p zero h = absurd (false_not_true h)
least_is_one p (suc n) h = elim (cases_Bool (some_below p n)) [
  | inl e ↦
      let found = least_is_one p n e in
      let is : least_below p (suc n) ≡ least_below p n = cond-true (some_below p n) _ _ e in
      (omega (arith, found.0), ap p is ∙ found.1)
  | inr e ↦ elim (or_cases (some_below p n) (p n) h) [
    | inl f ↦ absurd (false_not_true (sym e ∙ f))
    | inr f ↦
        let is : least_below p (suc n) ≡ n = cond-false (some_below p n) _ _ e ∙ cond-true (p n) n (suc n) f in
        (omega arith, ap p is ∙ f)
  ]
]

-- or the bound, where there is none
pub least_is_end : (p : ℕ → Bool) (n : ℕ) → some_below p n ≡ false → least_below p n ≡ n
unfolding some_below least_below
least_is_end p zero h = refl
least_is_end p (suc n) h = let parts = or_parts (some_below p n) (p n) h in cond-false (some_below p n) _ _ parts.0 ∙ cond-false (p n) n (suc n) parts.1

-- the value of a result, or another
abbrev ok_or : {A : Type 0} → A → Result A Errno → A
ok_or x (Ok y) = y
ok_or x (Err e) = x

-- the value of a result, if any
abbrev ok_of : {A : Type 0} → Result A Errno → Option A
ok_of (Ok y) = Some y
ok_of (Err e) = None

-- a free place is below the limit, and nothing is there
pub free_place_is : {A : Type 0} (f : ℕ → Option A) (limit : ℕ) (e : Errno) (k : ℕ) → free_place f limit e ≡ Ok k → (k < limit) × (f k ≡ None)
free_place_is {A} f limit e k h = let p = λ (j : ℕ). is_none (f j) in elim (cases_Bool (some_below p limit)) [
  | inl s ↦
      let found = least_is_one p limit s in
      let is : least_below p limit ≡ k = ap (ok_or (least_below p limit)) (sym (cond-false (least_below p limit == limit) (Err e) (Ok (least_below p limit)) (ne_eqb _ _ (λ d. absurd (omega (arith, found.0))))) ∙ h) in
      (omega (arith, found.0), none_from (f k) (ap p (sym is) ∙ found.1))
  | inr s ↦ absurd (not_nothing k (ap ok_of (sym (cond-true (least_below p limit == limit) (Err e) (Ok (least_below p limit)) (eq-eqb _ _ (least_is_end p limit s))) ∙ h)))
]
