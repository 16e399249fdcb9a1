-- The zones at a number and below it.
use Rattle.std.proofs.Common.{◌≡◌, ◌≢◌, ◌<◌, ◌≤◌, ◌+◌, ◌-◌, ◌*◌, ℕ, zero, suc, refl, sym, ap, ◌∙◌, arith}
use mathlib.Core.Logic.{inl, inr}
use Rattle.std.specs.Prelude.{not, ◌==◌, nat_lt}
use Rattle.std.proofs.lemmas.Bool.{cases_lt, cond-true, cond-false, eq-eqb, ne_eqb, lt-ltb, le-ltb}
use Rattle.lemmas.specs.Sums.{sum_below, one_if}
use Rattle.volume.specs.Pieces.{Pieces}
use Rattle.volume.specs.Nodes.{number}
use Rattle.volume.proofs.Swapped.{sum_none}
use Rattle.image.specs.Entered.{level_of}
use Rattle.migrate.specs.Used.{zones_below, most_below}

-- at 0 and below it stand none
pub none_below : (v : Pieces) (l z : ℕ) → z ≡ 0 → zones_below v l z ≡ 0
none_below v zero z e = ap (λ b. one_if (not b)) (eq-eqb z 0 e)
none_below v (suc l) z e =
    let here : one_if (not (z == 0)) ≡ 0 = ap (λ b. one_if (not b)) (eq-eqb z 0 e) in
    let rest : sum_below (λ j. zones_below v l (number v z j)) 256 ≡ 0
    = sum_none _ 256 (λ j h. none_below v l (number v z j) (cond-true (z == 0) 0 _ (eq-eqb z 0 e))) in
    omega arith

-- a page is one
pub one_page : (v : Pieces) (l z : ℕ) → l ≡ 0 → z ≢ 0 → zones_below v l z ≡ 1
one_page v zero z low some = ap (λ b. one_if (not b)) (ne_eqb z 0 some)
one_page v (suc l) z low some = absurd (omega arith)

-- a block is one, and what it names
pub one_block : (v : Pieces) (l z : ℕ) → l ≢ 0 → z ≢ 0 → zones_below v l z ≡ 1 + sum_below (λ j. zones_below v (l - 1) (number v z j)) 256
one_block v zero z high some = absurd (high refl)
one_block v (suc l) z high some =
    let same : suc l - 1 ≡ l = omega arith in
    let here : one_if (not (z == 0)) ≡ 1 = ap (λ b. one_if (not b)) (ne_eqb z 0 some) in
    ap (λ a. a + sum_below (λ j. zones_below v l (number v z j)) 256) here
    ∙ ap (λ k. 1 + sum_below (λ j. zones_below v k (number v z j)) 256) (sym same)

-- a block's most
pub most_block : (l : ℕ) → l ≢ 0 → most_below l ≡ 1 + 256 * most_below (l - 1)
most_block zero high = absurd (high refl)
most_block (suc l) high = let same : suc l - 1 ≡ l = omega arith in ap (λ k. 1 + 256 * most_below k) (sym same)

-- none of four levels has more
pub most_low : (l : ℕ) → l < 4 → most_below l ≤ 16843009
most_low zero h = omega arith
most_low (suc zero) h = omega arith
most_low (suc (suc zero)) h = omega arith
most_low (suc (suc (suc zero))) h = omega arith
most_low (suc (suc (suc (suc l)))) h = absurd (omega arith)

-- one number more of a block
pub more_below : (used here j most : ℕ) → used ≤ 1 + j * most → here ≤ most → used + here ≤ 1 + (j + 1) * most
more_below used here j most before few =
    let turn : (j + 1) * most ≡ j * most + most = grind arith in
    omega arith

-- no more than fit
pub fits_below : (j most : ℕ) → j < 256 → most ≤ 16843009 → j * most ≤ 4311810304
fits_below j most h few =
    let d : ℕ = 256 - j in
    let parts : (j + d) * most ≡ j * most + d * most = grind arith in
    let all : j + d ≡ 256 = omega arith in
    let whole : (j + d) * most ≡ 256 * most = ap (λ k. k * most) all in
    omega arith

-- there are four levels
pub level_low : (s : ℕ) → s < 10 → level_of s < 4
level_low s h = elim (cases_lt s 7) [
  | inl low ↦ let e : level_of s ≡ 0 = cond-true (nat_lt s 7) 0 (s - 6) (lt-ltb s 7 low) in omega arith
  | inr far ↦ let e : level_of s ≡ s - 6 = cond-false (nat_lt s 7) 0 (s - 6) (le-ltb s 7 far) in omega arith
]
