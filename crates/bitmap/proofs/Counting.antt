-- Free numbers, one range after the other.
use Rattle.std.proofs.Common.{◌≡◌, ◌≤◌, ◌<◌, ◌+◌, ◌-◌, ℕ, zero, suc, Bool, true, false, refl, ap, ◌∙◌, arith}
use mathlib.Core.Logic.{inl, inr}
use Rattle.std.specs.Prelude.{not, Option, Some, None, IsSome}
use Rattle.std.proofs.lemmas.Bool.{cases_lt}
use Rattle.lemmas.specs.Sums.{count_below, sum_below, one_if}
use Rattle.bitmap.specs.Numbers.{AllIn, IsLowestFree, count_free_in}

-- where all are in the set none is free
none_free : (set : ℕ → Bool) (n : ℕ) → ((j : ℕ) → j < n → set (j + 1) ≡ true) → count_below (λ j. not (set (j + 1))) n ≡ 0
unfolding sum_below
none_free set zero all = refl
none_free set (suc n) all =
    let rest = none_free set n (λ j high. all j (omega arith)) in
    let last : one_if (not (set (n + 1))) ≡ 0 = ap (λ b. one_if (not b)) (all n (omega arith)) in
    omega (arith, rest, last)

pub free_found : (set : ℕ → Bool) (x : Option ℕ) (last : ℕ) → IsLowestFree x set 1 (last + 1) → 0 < count_free_in set 1 (last + 1) → IsSome x
free_found set (Some n) last lowest some = refl
free_found set None last all some =
    let same : last + 1 - 1 ≡ last = omega arith in
    let none : count_below (λ j. not (set (j + 1))) (last + 1 - 1) ≡ 0 = ap (count_below (λ j. not (set (j + 1)))) same
    ∙ none_free set last (λ j high. all (j + 1) (omega arith) (omega arith)) in
    absurd (omega (arith, some, none))

either : (b : Bool) → one_if (not b) + one_if b ≡ 1
either true = refl
either false = refl

both : (set : ℕ → Bool) (n : ℕ) → count_below (λ k. not (set (k + 1))) n + count_below (λ k. set (k + 1)) n ≡ n
unfolding sum_below
both set zero = refl
both set (suc n) =
    let rest = both set n in
    let one = either (set (n + 1)) in
    omega (arith, rest, one)

pub free_taken : (set : ℕ → Bool) (last : ℕ) → count_free_in set 1 (last + 1) + count_below (λ k. set (k + 1)) last ≡ last
free_taken set last =
    let same : last + 1 - 1 ≡ last = omega arith in
    ap (λ (n : ℕ). count_below (λ k. not (set (k + 1))) n + count_below (λ k. set (k + 1)) last) same ∙ both set last

-- a count over two ranges
joined : (f : ℕ → Bool) (m n : ℕ) → count_below f (m + n) ≡ count_below f m + count_below (λ k. f (k + m)) n
unfolding sum_below
joined f m zero =
    let same : m + 0 ≡ m = omega arith in
    let whole : count_below f (m + 0) ≡ count_below f m = ap (count_below f) same in
    omega (arith, whole)
joined f m (suc n) =
    let rest = joined f m n in
    let turned : m + n ≡ n + m = omega arith in
    let last : one_if (f (m + n)) ≡ one_if (f (n + m)) = ap (λ (k : ℕ). one_if (f k)) turned in
    let more : m + suc n ≡ suc (m + n) = omega arith in
    let whole : count_below f (m + suc n) ≡ count_below f (m + n) + one_if (f (m + n)) = ap (count_below f) more in
    omega (arith, rest, last, whole)

pub counted_on : (set : ℕ → Bool) (a b c : ℕ) → a ≤ b → b ≤ c → count_free_in set a b + count_free_in set b c ≡ count_free_in set a c
counted_on set a b c low high =
    let f : ℕ → Bool = λ k. not (set (k + a)) in
    let apart : c - a ≡ (b - a) + (c - b) = omega (arith, low, high) in
    let whole : count_free_in set a c ≡ count_below f ((b - a) + (c - b)) = ap (count_below f) apart in
    let parts = joined f (b - a) (c - b) in
    let second : count_below (λ k. f (k + (b - a))) (c - b) ≡ count_free_in set b c =
    ap (λ (h : ℕ → Bool). count_below h (c - b)) (λ i k. not (set (places k i))) in
    omega (arith, whole, parts, second)
  where
    places : (k : ℕ) → k + (b - a) + a ≡ k + b
    places k = omega (arith, low)

-- none
pub counted_none : (set : ℕ → Bool) (from : ℕ) → count_free_in set from from ≡ 0
unfolding sum_below
counted_none set from =
    let none : from - from ≡ 0 = omega arith in
    ap (count_below (λ k. not (set (k + from)))) none

-- one number more
pub counted_one : (set : ℕ → Bool) (from k : ℕ) → from ≤ k → count_free_in set from (k + 1) ≡ count_free_in set from k + one_if (not (set k))
unfolding sum_below
counted_one set from k low =
    let rest = counted_on set from k (k + 1) low (omega arith) in
    let one : count_free_in set k (k + 1) ≡ one_if (not (set k)) = single in
    omega (arith, rest, one)
  where
    single : count_free_in set k (k + 1) ≡ one_if (not (set k))
    single =
        let one : k + 1 - k ≡ suc zero = omega arith in
        let at : zero + k ≡ k = omega arith in
        let first : count_free_in set k (k + 1) ≡ count_below (λ j. not (set (j + k))) (suc zero) = ap (count_below (λ j. not (set (j + k)))) one in
        let only : one_if (not (set (zero + k))) ≡ one_if (not (set k)) = ap (λ (j : ℕ). one_if (not (set j))) at in
        omega (arith, first, only)

-- a count that goes on
pub more_counted : (set : ℕ → Bool) (a b c x y : ℕ) → a ≤ b → b ≤ c → x ≡ count_free_in set a b → y ≡ count_free_in set b c → x + y ≡ count_free_in set a c
more_counted set a b c x y low high p q = let both = counted_on set a b c low high in omega (arith, p, q, both)

-- numbers that are all in the set
pub all_on : (set : ℕ → Bool) (a b c : ℕ) → AllIn set a b → AllIn set b c → AllIn set a c
all_on set a b c x y j low high = elim (cases_lt j b) [ inl l ↦ x j low l | inr l ↦ y j l high ]

-- the lowest of a range is that of a longer one
pub lowest_on : (set : ℕ → Bool) (n a b c end : ℕ) → a ≤ b → c ≤ end → AllIn set a b → IsLowestFree (Some n) set b c → IsLowestFree (Some n) set a end
lowest_on set n a b c end low high all l =
    let at = l.0 in
    let before = l.1 in
    (omega (arith, at, low), omega (arith, before, high), l.2, all_on set a b n all l.3)
