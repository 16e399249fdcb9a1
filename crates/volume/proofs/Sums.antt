-- Sums and tests below a bound: a witness, a lower bound, and when a sum is at most one.
use Rattle.std.proofs.Common.{◌≡◌, ◌<◌, ◌≤◌, ◌+◌, ℕ, zero, suc, Bool, true, false, refl, sym, ap, ◌∙◌, arith}
use mathlib.Core.Logic.{inl, inr}
use Rattle.std.specs.Prelude.{◌||◌}
use Rattle.std.proofs.lemmas.Bool.{cases_eq, cases_Bool, cases_order, or_cases, or_left, or_right, cases_lt}
use Rattle.lemmas.specs.Sums.{sum_below, count_below, some_below, one_if}

-- a number that passes
pub some_from : (p : ℕ → Bool) (n j : ℕ) → j < n → p j ≡ true → some_below p n ≡ true
unfolding some_below
some_from p zero j h is = absurd (omega arith)
some_from p (suc n) j h is = elim (cases_eq j n) [
  | inl e ↦ or_right (some_below p n) (p n) (ap p (sym e) ∙ is)
  | inr d ↦ or_left (some_below p n) (p n) (some_from p n j (omega arith) is)
]

-- tests that agree below the bound
pub same_some : (p q : ℕ → Bool) (n : ℕ) → ((j : ℕ) → j < n → p j ≡ q j) → some_below p n ≡ some_below q n
unfolding some_below
same_some p q zero alike = refl
same_some p q (suc n) alike = λ i. same_some p q n (λ j h. alike j (omega arith)) i || alike n (omega arith) i

-- the number that passes, where one does
pub some_witness : (p : ℕ → Bool) (n : ℕ) → some_below p n ≡ true → (k : ℕ) × (k < n) × (p k ≡ true)
unfolding some_below
some_witness p zero e = absurd (cc)
some_witness p (suc n) e = elim (or_cases (some_below p n) (p n) e) [
  | inl before ↦ let w = some_witness p n before in (w.0, omega (arith, w.1), w.2)
  | inr here ↦ (n, omega arith, here)
]

-- where none passes, each fails
pub none_below : (p : ℕ → Bool) (n : ℕ) → some_below p n ≡ false → (k : ℕ) → k < n → p k ≡ false
none_below p n e k h = elim (cases_Bool (p k)) [
  | inl is ↦ let t = some_from p n k h is in absurd (cc)
  | inr out ↦ out
]

-- and the converse
pub none_from : (p : ℕ → Bool) (n : ℕ) → ((k : ℕ) → k < n → p k ≡ false) → some_below p n ≡ false
none_from p n none = elim (cases_Bool (some_below p n)) [
  | inl is ↦ let w = some_witness p n is in let o = none w.0 w.1 in let i : p w.0 ≡ true = w.2 in absurd (cc)
  | inr out ↦ out
]

-- a test counts one at most
pub one_most : (b : Bool) → one_if b ≤ 1
one_most true = omega arith
one_most false = omega arith

-- a count is at most the bound
pub count_most : (p : ℕ → Bool) (n : ℕ) → count_below p n ≤ n
unfolding sum_below
count_most p zero = omega arith
count_most p (suc n) = let before = count_most p n in let here = one_most (p n) in omega arith

-- a true test counts one
pub one_true : (b : Bool) → b ≡ true → one_if b ≡ 1
one_true b e = ap one_if e

-- and what counts is true
pub true_one : (b : Bool) → 0 < one_if b → b ≡ true
true_one true h = refl
true_one false h = absurd (omega arith)

-- a part is at most the sum
pub sum_at : (f : ℕ → ℕ) (n k : ℕ) → k < n → f k ≤ sum_below f n
unfolding sum_below
sum_at f zero k h = absurd (omega arith)
sum_at f (suc n) k h = elim (cases_eq k n) [
  | inl e ↦ let same : f k ≡ f n = ap f e in omega arith
  | inr d ↦ let before = sum_at f n k (omega arith) in omega arith
]

-- and so are two parts
pub sum_two : (f : ℕ → ℕ) (n a b : ℕ) → a < b → b < n → f a + f b ≤ sum_below f n
unfolding sum_below
sum_two f zero a b h l = absurd (omega arith)
sum_two f (suc n) a b h l = elim (cases_eq b n) [
  | inl e ↦ let same : f b ≡ f n = ap f e in let before = sum_at f n a (omega arith) in omega arith
  | inr d ↦ let before = sum_two f n a b h (omega arith) in omega arith
]

-- a sum that isn't 0 has a part that isn't
pub sum_some : (f : ℕ → ℕ) (n : ℕ) → 0 < sum_below f n → (k : ℕ) × (k < n) × (0 < f k)
unfolding sum_below
sum_some f zero h = absurd (omega arith)
sum_some f (suc n) h = elim (cases_lt 0 (f n)) [
  | inl here ↦ (n, omega arith, here)
  | inr none ↦ let w = sum_some f n (omega arith) in (w.0, omega (arith, w.1), w.2)
]

-- a sum of at most one has one place at most
pub sum_same : (f : ℕ → ℕ) (n a b : ℕ) → sum_below f n ≤ 1 → a < n → b < n → 0 < f a → 0 < f b → a ≡ b
sum_same f n a b most la lb pa pb = elim (cases_order a b) [
  | inl e ↦ e
  | inr o ↦ elim o [
    | inl h ↦ let two = sum_two f n a b h lb in absurd (omega arith)
    | inr h ↦ let two = sum_two f n b a h la in absurd (omega arith)
  ]
]

-- and a sum that has one place at most, with at most one there, is at most one
pub sum_single : (f : ℕ → ℕ) (n : ℕ) → ((k : ℕ) → k < n → f k ≤ 1) → ((a b : ℕ) → a < n → b < n → 0 < f a → 0 < f b → a ≡ b) → sum_below f n ≤ 1
unfolding sum_below
sum_single f zero each same = omega arith
sum_single f (suc n) each same =
    let before = sum_single f n (λ k h. each k (omega arith)) (λ a b h l. same a b (omega arith) (omega arith)) in
    let here = each n (omega arith) in
    elim (cases_lt 0 (f n)) [
      | inl some ↦ elim (cases_lt 0 (sum_below f n)) [
        | inl more ↦ let w = sum_some f n more in let e = same w.0 n (omega (arith, w.1)) (omega arith) w.2 some in absurd (omega (arith, w.1))
        | inr none ↦ omega arith
      ]
      | inr none ↦ omega arith
    ]
