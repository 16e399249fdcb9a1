-- Counting step by step.
use Rattle.std.proofs.Common.{◌≡◌, ◌≢◌, ◌⊎◌, ◌<◌, ◌≤◌, ◌+◌, ◌*◌, ℕ, zero, suc, List, length, set, get_or, Bool, true, false, refl, sym, ap, ◌∙◌, cond, arith, add-one}
use mathlib.Core.Logic.{inl, inr}
use Rattle.std.specs.Prelude.{min, ◌==◌, if◌then◌else◌}
use Rattle.std.proofs.lemmas.Bool.{cases_eq, cases_Bool, cond-true, cond-false, eq-eqb, ne_eqb}
use Rattle.std.proofs.lemmas.List.{length-set, get_or-set_same, get_or-set_other}
use Rattle.lemmas.specs.Sums.{sum_below, count_below, one_if}
use Rattle.image.specs.Counts.{AreSmall, AreCountedTo}

-- a sum of one number more
pub sum_more : (f : ℕ → ℕ) (n : ℕ) → sum_below f (n + 1) ≡ sum_below f n + f n
unfolding sum_below
sum_more f n = ap (sum_below f) (add-one n)

-- a sum of none
pub no_sum : (f : ℕ → ℕ) → sum_below f 0 ≡ 0
unfolding sum_below
no_sum f = refl

-- nothing more
pub counted_none : (more : ℕ → ℕ) (a : List ℕ) → AreSmall a → ((z : ℕ) → more z ≡ 0) → AreCountedTo more a a
counted_none more a small none = record { size = refl; each = λ z h. omega (arith, small z, none z) }

-- one count and another
pub counted_more : (f h both : ℕ → ℕ) (a b c : List ℕ) → ((z : ℕ) → both z ≡ f z + h z) → AreCountedTo f a b → AreCountedTo h b c → AreCountedTo both a c
counted_more f h both a b c sum first second = record {
  size = second.size ∙ first.size;
  each = λ z l.
      let inside : z < length b = omega (arith, first.size) in
      omega (arith, first.each z l, second.each z inside, sum z);
}

-- the same count
pub counted_same : (f h : ℕ → ℕ) (a b : List ℕ) → ((z : ℕ) → h z ≡ f z) → AreCountedTo f a b → AreCountedTo h a b
counted_same f h a b same counted = record { size = counted.size; each = λ z l. omega (arith, counted.each z l, same z) }

-- one use is small
pub small_one : (uses : List ℕ) (zone : ℕ) → zone < length uses → get_or uses zone 0 < 2 → AreSmall uses → AreSmall (set uses zone (get_or uses zone 0 + 1))
small_one uses zone h less small z = elim (cases_eq z zone) [
  | inl e ↦
      let there : get_or (set uses zone (get_or uses zone 0 + 1)) z 0 ≡ get_or uses zone 0 + 1 = ap (λ k. get_or (set uses zone (get_or uses zone 0 + 1)) k 0) e ∙ get_or-set_same uses zone (get_or uses zone 0 + 1) 0 h in
      omega arith
  | inr d ↦
      let there = get_or-set_other uses zone z (get_or uses zone 0 + 1) 0 d in
      let s = small z in
      omega arith
]

-- the counts after one use
pub counted_one : (uses : List ℕ) (zone : ℕ) → zone < length uses → get_or uses zone 0 < 2 → AreSmall uses
    → AreCountedTo (λ z. one_if (zone == z)) uses (set uses zone (get_or uses zone 0 + 1))
counted_one uses zone h less small = record {
  size = length-set uses zone (get_or uses zone 0 + 1);
  each = λ z l. elim (cases_eq zone z) [
    | inl e ↦
        let one : one_if (zone == z) ≡ 1 = ap one_if (eq-eqb zone z e) in
        let there : get_or (set uses zone (get_or uses zone 0 + 1)) z 0 ≡ get_or uses zone 0 + 1 = ap (λ k. get_or (set uses zone (get_or uses zone 0 + 1)) k 0) (sym e) ∙ get_or-set_same uses zone (get_or uses zone 0 + 1) 0 h in
        let same : get_or uses zone 0 ≡ get_or uses z 0 = ap (λ k. get_or uses k 0) e in
        omega arith
    | inr d ↦
        let none : one_if (zone == z) ≡ 0 = ap one_if (ne_eqb zone z d) in
        let there = get_or-set_other uses zone z (get_or uses zone 0 + 1) 0 (λ e. d (sym e)) in
        let most = small z in
        omega arith
  ];
}

-- and where nothing is counted, since the zone is past the end, or has two uses
pub counted_full : (uses : List ℕ) (zone : ℕ) → (zone < length uses → 2 ≤ get_or uses zone 0) → AreSmall uses → AreCountedTo (λ z. one_if (zone == z)) uses uses
counted_full uses zone full small = record {
  size = refl;
  each = λ z l. elim (cases_eq zone z) [
    | inl e ↦
        let one : one_if (zone == z) ≡ 1 = ap one_if (eq-eqb zone z e) in
        let same : get_or uses zone 0 ≡ get_or uses z 0 = ap (λ k. get_or uses k 0) e in
        let two : 2 ≤ get_or uses zone 0 = full (omega arith) in
        let most = small z in
        omega arith
    | inr d ↦
        let none : one_if (zone == z) ≡ 0 = ap one_if (ne_eqb zone z d) in
        let most = small z in
        omega arith
  ];
}
