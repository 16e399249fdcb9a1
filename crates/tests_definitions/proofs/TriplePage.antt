-- One page alone in the triple range needs itself and three blocks.
use Rattle.std.proofs.Common.{◌≡◌, ◌<◌, ◌≤◌, ◌+◌, ◌*◌, ◌/◌, ◌%◌, ℕ, zero, suc, Bool, true, false, refl, sym, ap, ◌∙◌, arith}
use mathlib.Core.Logic.{inl, inr}
use Rattle.std.specs.Prelude.{◌==◌}
use Rattle.std.proofs.lemmas.Bool.{cases_eq, eq-eqb, ne_eqb, or_from, or_left, or_right, cond-true, cond-false}
use Rattle.std.proofs.lemmas.Nat.{div_below, div-mul-add}
use Rattle.std.proofs.Math.Nat.{div-add-mod, le-mul_of_pos_right, mod-lt}
use Rattle.lemmas.specs.Sums.{sum_below, some_below, count_below, one_if}
use Rattle.tree.specs.ZonesNeeded.{page_limit, from_page, quotients, single_blocks, double_blocks, triple_blocks, zones_needed}
use Rattle.tree.proofs.Needs.{none_counted}

-- one page alone
abbrev pub only : ℕ → ℕ → Bool
only p q = q == p

-- none passes below n
none_before : (p : ℕ → Bool) (n : ℕ) → ((q : ℕ) → q < n → p q ≡ false) → some_below p n ≡ false
unfolding some_below
none_before p zero h = refl
none_before p (suc n) h = or_from (some_below p n) (p n) (none_before p n (λ q l. h q (omega arith))) (h n (omega arith))

-- one passes below n
some_at : (p : ℕ → Bool) (n k : ℕ) → k < n → p k ≡ true → some_below p n ≡ true
unfolding some_below
some_at p zero k l h = absurd (omega arith)
some_at p (suc n) k l h = elim (cases_eq k n) [
  | inl e ↦ or_right (some_below p n) (p n) (ap p (sym e) ∙ h)
  | inr d ↦ or_left (some_below p n) (p n) (some_at p n k (omega arith) h)
]

-- one page counts once
count_only : (p n : ℕ) → p < n → count_below (only p) n ≡ 1
unfolding sum_below
count_only p zero l = absurd (omega arith)
count_only p (suc n) l = elim (cases_eq p n) [
  | inl e ↦
      let front : count_below (only p) n ≡ 0 = none_counted (only p) n (none_before (only p) n (λ q b. ne_eqb q p (λ same. absurd (omega arith)))) in
      let last : one_if (only p n) ≡ 1 = ap one_if (eq-eqb n p (sym e)) in
      omega arith
  | inr d ↦
      let front = count_only p n (omega arith) in
      let last : one_if (only p n) ≡ 0 = ap one_if (ne_eqb n p (λ same. d (sym same))) in
      omega arith
]

-- one page, r after the start, lies in one group of w
one_quotient : (start r w n : ℕ) → 0 < w → r < n * w → quotients (from_page start (only (start + r))) w n ≡ 1
one_quotient start r w n sized low = ap (λ f. sum_below f n) (λ i k. one_if (each k i)) ∙ count_only (r / w) n (div_below r w n sized low)
  where
    parts : w * (r / w) + r % w ≡ r
    parts = div-add-mod r w

    each : (k : ℕ) → some_below (λ j. (start + (k * w + j)) == (start + r)) w ≡ (k == r / w)
    each k = elim (cases_eq k (r / w)) [
      | inl e ↦
          let here : k * w ≡ w * (r / w) = ap (λ x. x * w) e ∙ (let c : r / w * w ≡ w * (r / w) = omega arith in c) in
          some_at _ w (r % w) (mod-lt r sized) (eq-eqb _ _ (let s : start + (k * w + r % w) ≡ start + r = omega arith in s)) ∙ sym (eq-eqb k (r / w) e)
      | inr d ↦
          none_before _ w (λ j l. ne_eqb _ _ (λ same. d (sym (div-mul-add k w j l) ∙ ap (λ x. x / w) (let s : k * w + j ≡ r = omega arith in s))))
          ∙ sym (ne_eqb k (r / w) d)
    ]

pub triple_page : (n r : ℕ) → 0 < n → r < n * n * n → zones_needed n (only (7 + n + n * n + r)) ≡ 4
triple_page n r sized low =
    let p : ℕ = 7 + n + n * n + r in
    let held : ℕ → Bool = from_page (7 + n + n * n) (only p) in
    let square : n ≤ n * n = le-mul_of_pos_right {m = n} n sized in
    let cube : n * (n * n) ≡ n * n * n = omega arith in
    let page : count_below (only p) (page_limit n) ≡ 1 = count_only p (page_limit n) (omega arith) in
    let single : single_blocks n (from_page 7 (only p)) ≡ 0 = ap one_if (none_before _ n (λ q l. ne_eqb (7 + q) p (λ same. absurd (omega arith)))) in
    let double : double_blocks n (from_page (7 + n) (only p)) ≡ 0 =
    cond-false _ _ _ (none_before _ (n * n) (λ q l. ne_eqb (7 + n + q) p (λ same. absurd (omega arith)))) in
    let wide : quotients held (n * n) n ≡ 1 = one_quotient (7 + n + n * n) r (n * n) n (omega arith) (omega arith) in
    let narrow : quotients held n (n * n) ≡ 1 = one_quotient (7 + n + n * n) r n (n * n) sized low in
    let triple : triple_blocks n held ≡ 1 + quotients held (n * n) n + quotients held n (n * n) =
    cond-true _ _ _ (some_at held (n * n * n) r low (eq-eqb _ _ refl)) in
    omega arith
