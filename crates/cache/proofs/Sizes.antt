-- Multiples.
use Rattle.std.proofs.Common.{◌≡◌, ℕ, ◌*◌, ◌%◌, sym, ap, ◌∙◌, arith}
use Rattle.std.proofs.Math.Nat.{mul-mod_left}
use Rattle.std.proofs.lemmas.Nat.{mul-mod_second}

-- a multiple's multiples are multiples
pub whole_product : (a b n : ℕ) → b % n ≡ 0 → a * b % n ≡ 0
whole_product a b n h = sym (mul-mod_second a b n) ∙ ap (λ (k : ℕ). a * k % n) h ∙ none a n
  where
    none : (a n : ℕ) → a * 0 % n ≡ 0
    none a n = ap (λ (k : ℕ). k % n) (let e : a * 0 ≡ 0 * n = omega arith in e) ∙ mul-mod_left 0 n
