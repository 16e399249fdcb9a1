-- Sums of sums in the other order, and a count of numbers that are hit once.
use Rattle.std.proofs.Common.{◌≡◌, ◌≢◌, ◌<◌, ◌≤◌, ◌+◌, ◌-◌, ℕ, zero, suc, Bool, true, false, refl, sym, ap, ◌∙◌, arith}
use Rattle.std.specs.Prelude.{not, ◌&&◌, ◌==◌}
use Rattle.std.proofs.lemmas.Bool.{eq-eqb, ne_eqb, eqb-true}
use Rattle.lemmas.specs.Sums.{sum_below, count_below, one_if}
use Rattle.volume.proofs.Sums.{one_most, one_true, true_one, sum_at, sum_single}

-- a sum of sums of two functions
sum_plus : (f h : ℕ → ℕ) (n : ℕ) → sum_below (λ k. f k + h k) n ≡ sum_below f n + sum_below h n
unfolding sum_below
sum_plus f h zero = refl
sum_plus f h (suc n) = let before = sum_plus f h n in omega arith

-- a sum of nothing
pub sum_none : (f : ℕ → ℕ) (n : ℕ) → ((k : ℕ) → k < n → f k ≡ 0) → sum_below f n ≡ 0
unfolding sum_below
sum_none f zero none = refl
sum_none f (suc n) none = let before = sum_none f n (λ k h. none k (omega arith)) in let here = none n (omega arith) in omega arith

-- rows or columns first
pub sum_swap : (f : ℕ → ℕ → ℕ) (a b : ℕ) → sum_below (λ x. sum_below (f x) b) a ≡ sum_below (λ y. sum_below (λ x. f x y) a) b
unfolding sum_below
sum_swap f zero b = sym (sum_none (λ y. 0) b (λ k h. refl))
sum_swap f (suc a) b =
    let before = sum_swap f a b in
    let whole = sum_plus (λ y. sum_below (λ x. f x y) a) (f a) b in
    omega arith

-- of the d numbers from first on, one is x, unless x is 0
pub hit_once : (b : Bool) (x first d : ℕ) → 0 < first → (b ≡ true → x ≢ 0 → (first ≤ x) × (x < first + d))
    → count_below (λ k. b && (x == first + k)) d ≡ one_if (b && not (x == 0))
hit_once false x first d some range = sum_none _ d (λ k h. refl)
hit_once true zero first d some range = sum_none (λ k. one_if (0 == first + k)) d (λ k h. ap one_if (ne_eqb 0 (first + k) (λ e. absurd (omega arith)))) ∙ ap (λ b. one_if (not b)) (sym (eq-eqb 0 0 refl))
hit_once true (suc y) first d some range =
    let x : ℕ = suc y in
    let low = range refl (λ e. absurd (omega arith)) in
    let f : ℕ → ℕ = λ k. one_if (x == first + k) in
    let hit : f (x - first) ≡ 1 = one_true (x == first + (x - first)) (eq-eqb x (first + (x - first)) (omega (arith, low.0))) in
    let least : f (x - first) ≤ sum_below f d = sum_at f d (x - first) (omega (arith, low.0, low.1)) in
    let most : sum_below f d ≤ 1 = sum_single f d (λ k h. one_most (x == first + k))
    (λ a b ha hb pa pb. let u = eqb-true x (first + a) (true_one _ pa) in let w = eqb-true x (first + b) (true_one _ pb) in omega arith) in
    let one : one_if (not (x == 0)) ≡ 1 = ap (λ b. one_if (not b)) (ne_eqb x 0 (λ e. absurd (omega arith))) in
    omega arith
