-- The bits of a new map are read as they were written.
use Rattle.std.proofs.Common.{◌≡◌, ◌<◌, ◌≤◌, ◌+◌, ◌*◌, ◌/◌, ◌%◌, ◌^◌, ℕ, zero, suc, Bool, true, false, refl, ap, ◌∙◌, add-one, arith}
use Rattle.std.specs.Prelude.{◌==◌, if◌then◌else◌}
use Rattle.std.proofs.Math.Nat.{pow-succ'}
use Rattle.lemmas.specs.Sums.{sum_below}
use Rattle.new_volume.specs.Image.{is_set, map_byte}

-- a bit of eight as a number
abbrev weight : (ℕ → Bool) → ℕ → ℕ
weight set j = if set j then 1 else 0

-- it is at most 1
at_most_one : (b : Bool) → (if b then 1 else 0) ≤ 1
at_most_one true = omega arith
at_most_one false = omega arith

-- a weight of a place
scaled : (b : Bool) (k : ℕ) → (if b then k else 0) ≡ k * (if b then 1 else 0)
scaled true k = omega arith
scaled false k = omega arith

-- whether a weight is 1
said : (b : Bool) → ((if b then 1 else 0) == 1) ≡ b
said true = refl
said false = refl

-- what holds at each of eight numbers holds below 8
eight : (P : ℕ → Type 0) → P 0 → P 1 → P 2 → P 3 → P 4 → P 5 → P 6 → P 7 → (i : ℕ) → i < 8 → P i
eight P a b c d e f g h zero low = a
eight P a b c d e f g h (suc zero) low = b
eight P a b c d e f g h (suc (suc zero)) low = c
eight P a b c d e f g h (suc (suc (suc zero))) low = d
eight P a b c d e f g h (suc (suc (suc (suc zero)))) low = e
eight P a b c d e f g h (suc (suc (suc (suc (suc zero))))) low = f
eight P a b c d e f g h (suc (suc (suc (suc (suc (suc zero)))))) low = g
eight P a b c d e f g h (suc (suc (suc (suc (suc (suc (suc zero))))))) low = h
eight P a b c d e f g h (suc (suc (suc (suc (suc (suc (suc (suc i)))))))) low = absurd (omega arith)

-- bits of a sum of eight
bit_of_sum : (a b c d e f g h : ℕ) → a ≤ 1 → b ≤ 1 → c ≤ 1 → d ≤ 1 → e ≤ 1 → f ≤ 1 → g ≤ 1 → h ≤ 1
    → (x : ℕ → ℕ) → x 0 ≡ a → x 1 ≡ b → x 2 ≡ c → x 3 ≡ d → x 4 ≡ e → x 5 ≡ f → x 6 ≡ g → x 7 ≡ h → (i : ℕ) → i < 8
    → (a + 2 * b + 4 * c + 8 * d + 16 * e + 32 * f + 64 * g + 128 * h) / 2 ^ i % 2 ≡ x i
bit_of_sum a b c d e f g h ha hb hc hd he hf hg hh x xa xb xc xd xe xf xg xh =
    eight (λ i. (a + 2 * b + 4 * c + 8 * d + 16 * e + 32 * f + 64 * g + 128 * h) / 2 ^ i % 2 ≡ x i)
    (omega arith) (omega arith) (omega arith) (omega arith) (omega arith) (omega arith) (omega arith) (omega arith)

module _ (set : ℕ → Bool) where
  -- a sum over the set bits, weight by weight
  spelled : sum_below (λ j. if set j then 2 ^ j else 0) 8
      ≡ weight set 0 + 2 * weight set 1 + 4 * weight set 2 + 8 * weight set 3 + 16 * weight set 4 + 32 * weight set 5 + 64 * weight set 6 + 128 * weight set 7
  unfolding sum_below
  spelled = omega (arith, scaled (set 0) 1, scaled (set 1) 2, scaled (set 2) 4, scaled (set 3) 8, scaled (set 4) 16, scaled (set 5) 32, scaled (set 6) 64, scaled (set 7) 128)

  -- bit i of that sum
  bit_of_byte : (i : ℕ) → i < 8 → sum_below (λ j. if set j then 2 ^ j else 0) 8 / 2 ^ i % 2 ≡ weight set i
  bit_of_byte i low = ap (λ n. n / 2 ^ i % 2) spelled
      ∙ bit_of_sum (weight set 0) (weight set 1) (weight set 2) (weight set 3) (weight set 4) (weight set 5) (weight set 6) (weight set 7)
      (at_most_one (set 0)) (at_most_one (set 1)) (at_most_one (set 2)) (at_most_one (set 3)) (at_most_one (set 4)) (at_most_one (set 5)) (at_most_one (set 6)) (at_most_one (set 7))
      (weight set) refl refl refl refl refl refl refl refl i low

-- bit n of a new map
pub bit_of_map : (last n : ℕ) → (map_byte last (n / 8) / 2 ^ (n % 8) % 2 == 1) ≡ is_set last n
bit_of_map last n =
    let place : 8 * (n / 8) + n % 8 ≡ n = omega arith in
    ap (λ w. w == 1) (bit_of_byte (λ j. is_set last (8 * (n / 8) + j)) (n % 8) (omega arith))
    ∙ said (is_set last (8 * (n / 8) + n % 8))
    ∙ ap (is_set last) place

-- the weights of the set bits up to a bit
pub record IsSumTo (set : ℕ → Bool) (n byte : ℕ) : Type 0 where
  pub sum : byte ≡ sum_below (λ j. if set j then 2 ^ j else 0) n
  pub small : byte < 2 ^ n

-- none so far
pub sum_none : (set : ℕ → Bool) → IsSumTo set 0 0
unfolding sum_below
sum_none set = record { sum = refl; small = omega arith }

-- one bit more, which is set or not
pub sum_next : (set : ℕ → Bool) (n byte next : ℕ) → IsSumTo set n byte → next ≡ byte + (if set n then 2 ^ n else 0) → IsSumTo set (n + 1) next
unfolding sum_below
sum_next set n byte next h is =
    let f : ℕ → ℕ = λ j. if set j then 2 ^ j else 0 in
    let more : sum_below f (n + 1) ≡ sum_below f n + f n = ap (sum_below f) (add-one n) in
    let power : 2 ^ (n + 1) ≡ 2 * 2 ^ n = ap (λ k. 2 ^ k) (add-one n) ∙ pow-succ' 2 n in
    let low : f n ≤ 2 ^ n = at_most (set n) (2 ^ n) in
    let sum = h.sum in
    let small = h.small in
    record { sum = omega arith; small = omega arith }
  where
    at_most : (b : Bool) (k : ℕ) → (if b then k else 0) ≤ k
    at_most true k = omega arith
    at_most false k = omega arith

-- the weight of a bit fits a byte
pub power_fits : (n : ℕ) → n < 8 → 1 * 2 ^ n % 256 ≡ 2 ^ n
power_fits = eight (λ n. 1 * 2 ^ n % 256 ≡ 2 ^ n) refl refl refl refl refl refl refl refl

-- a byte of a new map is one
pub map_byte_small : (last k : ℕ) → map_byte last k < 256
map_byte_small last k =
    let set : ℕ → Bool = λ j. is_set last (8 * k + j) in
    omega (arith, spelled set, at_most_one (set 0), at_most_one (set 1), at_most_one (set 2), at_most_one (set 3), at_most_one (set 4), at_most_one (set 5), at_most_one (set 6), at_most_one (set 7))
