-- The order of a sweep, as the sectors on either side of the arm.
use Rattle.std.specs.Prelude.{ℕ, ◌≡◌, ◌+◌, ◌-◌, ◌≤◌, ◌++◌, true, false, [], ◌∷◌, filter, min, nat_le, nat_lt}
use Rattle.std.specs.List.{range_with_len}
use Rattle.std.proofs.Common.{zero, suc, inl, inr, refl, sym, ◌∙◌, ap, arith}
use Rattle.std.proofs.lemmas.Bool.{cases_lt}
use Rattle.std.proofs.lemmas.Bool.Decides.{nat_tests}
use Rattle.std.proofs.lemmas.List.{append-nil}
use Rattle.bdev.specs.declared.Run.{Run}
use Rattle.modeldisk.specs.Order.{below, order_of}
use Rattle.modeldisk.specs.Laws.{IsSweep}

-- numbers from the arm on are all kept
all_high : (arm a n : ℕ) → arm ≤ a → filter (nat_le arm) (range_with_len a n) ≡ range_with_len a n
all_high arm a zero up = refl
all_high arm a (suc n) up =
    let t : nat_le arm a ≡ true = grind (arith, nat_tests) in
    rw (t, all_high arm (a + 1) n (omega arith)) refl

-- and none of them is below it
no_low : (arm a n : ℕ) → arm ≤ a → filter (λ s. nat_lt s arm) (range_with_len a n) ≡ []
no_low arm a zero up = refl
no_low arm a (suc n) up =
    let t : nat_lt a arm ≡ false = grind (arith, nat_tests) in
    rw t (no_low arm (a + 1) n (omega arith))

-- the numbers not below the arm, d being below it
high : (arm a n d : ℕ) → d ≡ min (arm - a) n → filter (nat_le arm) (range_with_len a n) ≡ range_with_len (a + d) (n - d)
high arm a zero d is = let z : d ≡ 0 = omega arith in rw z refl
high arm a (suc n) d is = elim (cases_lt a arm) [
  | inl less ↦
      let t : nat_le arm a ≡ false = grind (arith, nat_tests) in
      let e : a + d ≡ a + 1 + (d - 1) = omega arith in
      let l : suc n - d ≡ n - (d - 1) = omega arith in
      rw (t, e, l) (high arm (a + 1) n (d - 1) (omega arith))
  | inr up ↦
      let e : a + d ≡ a = omega arith in
      let l : suc n - d ≡ suc n = omega arith in
      rw (e, l) (all_high arm a (suc n) up)
]

-- the numbers below the arm
low : (arm a n d : ℕ) → d ≡ min (arm - a) n → filter (λ s. nat_lt s arm) (range_with_len a n) ≡ range_with_len a d
low arm a zero d is = let z : d ≡ 0 = omega arith in rw z refl
low arm a (suc n) d is = elim (cases_lt a arm) [
  | inl less ↦
      let t : nat_lt a arm ≡ true = grind (arith, nat_tests) in
      let e : d ≡ suc (d - 1) = omega arith in
      let more : a ∷ filter (λ s. nat_lt s arm) (range_with_len (a + 1) n) ≡ range_with_len a (suc (d - 1)) =
      ap (λ xs. a ∷ xs) (low arm (a + 1) n (d - 1) (omega arith)) in
      rw t (more ∙ ap (range_with_len a) (sym e))
  | inr up ↦ let z : d ≡ 0 = omega arith in rw z (no_low arm a (suc n) up)
]

-- so an order is a sweep
swept : (arm : ℕ) (run : Run) → order_of arm run ≡ filter (nat_le arm) (range_with_len run.first run.count) ++ filter (λ s. nat_lt s arm) (range_with_len run.first run.count)
swept arm run = rw (high arm run.first run.count (below arm run) refl, low arm run.first run.count (below arm run) refl) refl

-- and both facts together
pub is_sweep : IsSweep
is_sweep = record {
  swept = swept;
  rising = λ run. swept 0 run ∙ rw (all_high 0 run.first run.count (omega arith), no_low 0 run.first run.count (omega arith), append-nil) refl;
}
