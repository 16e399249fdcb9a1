-- The bits of a word of 64 bits.
use Rattle.std.proofs.Common.{◌≡◌, ◌<◌, ◌≤◌, ◌+◌, ◌-◌, ◌*◌, ◌/◌, ◌%◌, ◌^◌, ℕ, zero, suc, List, Bool, refl, sym, ap, ◌∙◌, arith}
use mathlib.Core.Logic.{inl, inr}
use Rattle.std.specs.Prelude.{not, ◌==◌, count_ones, drop, slice_index, true, false}
use Rattle.std.specs.Int.{bit_at, trailing_ones, w64}
use Rattle.std.specs.Int.Count.{trailing_of_zero}
use lib.Count.{ones, ones_step, count_trailing_zeros}
use native.Mathlib.Nat as nat
use Rattle.std.proofs.lemmas.Bool.{cases_lt}
use Rattle.std.proofs.lemmas.List.{get_or-drop}
use Rattle.std.proofs.lemmas.Nat.{pow-add, trailing_le}
use Rattle.std.proofs.lemmas.Nat.Bits.{bit_at-lt, bit_at-trailing_ones, bit_at_cat_high, bit_at_cat_low, bit_at_not, bit_at_ones}
use Rattle.byteorder.specs.Endian.{little_from, little_number}
use Rattle.lemmas.specs.Sums.{count_below, sum_below, one_if}
use Rattle.lemmas.proofs.Maps.{same_sum}
use Rattle.volume.specs.Reading.{bit_in}
use Rattle.volume.proofs.Sums.{count_most}
use Rattle.bitmap.specs.Numbers.{count_free_in}
use Rattle.bitmap.specs.Words.{bit_of}

-- a bit of the number in n bytes, the lowest first, stands in one of them
bit_of_bytes : (n i j : ℕ) (xs : List ℕ) → ((k : ℕ) → slice_index xs k < 256) → j < 8 * n
    → bit_at (little_from i n xs) j ≡ bit_at (slice_index xs (i + j / 8)) (j % 8)
bit_of_bytes zero i j xs bytes low = absurd (omega (arith, low))
bit_of_bytes (suc n) i j xs bytes low =
    let rest = little_from (suc i) n xs in
    let byte = slice_index xs i in
    let turned : little_from i (suc n) xs ≡ rest * 2 ^ 8 + byte = omega arith in
    ap (λ (z : ℕ). bit_at z j) turned ∙ elim (cases_lt j 8) [
      | inl first ↦
          let place : i ≡ i + j / 8 = omega (arith, first) in
          let bit : j ≡ j % 8 = omega (arith, first) in
          bit_at_cat_low rest 8 byte j first ∙ ap (λ (z : ℕ). bit_at (slice_index xs z) j) place
          ∙ ap (bit_at (slice_index xs (i + j / 8))) bit
      | inr later ↦
          let place : suc i + (j - 8) / 8 ≡ i + j / 8 = omega (arith, later) in
          let bit : (j - 8) % 8 ≡ j % 8 = omega (arith, later) in
          bit_at_cat_high rest 8 byte j (bytes i) later ∙ bit_of_bytes n (suc i) (j - 8) xs bytes (omega (arith, low, later))
          ∙ ap (λ (z : ℕ). bit_at (slice_index xs z) ((j - 8) % 8)) place ∙ ap (bit_at (slice_index xs (i + j / 8))) bit
    ]

-- a word of a row
pub word_bits : (xs : List ℕ) (place j : ℕ) → ((k : ℕ) → slice_index xs k < 256) → j < 64
    → bit_in (slice_index xs) (64 * place + j) ≡ bit_of (little_number 8 (drop (8 * place) xs)) j
word_bits xs place j bytes low =
    let rest = drop (8 * place) xs in
    let at : (64 * place + j) / 8 ≡ 8 * place + j / 8 = omega arith in
    let bit : (64 * place + j) % 8 ≡ j % 8 = omega arith in
    let there = get_or-drop (8 * place) xs (j / 8) 0 in
    let front : j / 8 ≡ 0 + j / 8 = omega arith in
    ap (λ (z : ℕ). z == 1) (
    ap (λ (z : ℕ). bit_at (slice_index xs z) ((64 * place + j) % 8)) at
    ∙ ap (bit_at (slice_index xs (8 * place + j / 8))) bit
    ∙ ap (λ (z : ℕ). bit_at z (j % 8)) (sym there)
    ∙ ap (λ (z : ℕ). bit_at (slice_index rest z) (j % 8)) front
    ∙ sym (bit_of_bytes 8 0 j rest (λ k. left k) (omega (arith, low)))
    )
  where
    left : (k : ℕ) → slice_index (drop (8 * place) xs) k < 256
    left k = let same = get_or-drop (8 * place) xs k 0 in let byte = bytes (8 * place + k) in omega (arith, same, byte)

-- the bits of a word without its lowest ones
shifted : (word from j : ℕ) → bit_at (word / 2 ^ from) j ≡ bit_at word (from + j)
shifted word from j =
    let split = nat.div-div-eq-div-mul word (2 ^ from) (2 ^ j) ∙ ap (λ (z : ℕ). word / z) (sym (pow-add 2 from j)) in
    ap (λ (z : ℕ). z % 2) split

-- the run of set bits at a word's low end
module _ (word from run : ℕ) (fits : word < 2 ^ 64) (is : run ≡ trailing_ones w64 (word / 2 ^ from)) where
  abbrev high : ℕ
  high = word / 2 ^ from

  small : high < 2 ^ 64
  small = let less = nat.div-le_self word (2 ^ from) in omega (arith, less, fits)

  pub run_set : (j : ℕ) → from ≤ j → j < from + run → bit_of word j ≡ true
  run_set j low below =
      let at : from + (j - from) ≡ j = omega (arith, low) in
      ap (λ (z : ℕ). z == 1) (sym (ap (bit_at word) at) ∙ sym (shifted word from (j - from)) ∙ set (j - from) (omega (arith, low, below)))
    where
      set : (i : ℕ) → i < run → bit_at high i ≡ 1
      set i lower = elim (cases_lt (high + 1) (2 ^ 64)) [
        | inl some ↦ (bit_at-trailing_ones w64 high some).2 i (omega (arith, lower, is))
        | inr all ↦
            let whole : high ≡ 2 ^ 64 - 1 = omega (arith, all, small) in
            let most = trailing_le 64 (2 ^ 64 - 1 - high) in
            ap (λ (z : ℕ). bit_at z i) whole ∙ bit_at_ones 64 i (omega (arith, lower, most, is))
      ]

  pub run_ends : run < 64 → bit_of word (from + run) ≡ false
  run_ends short = ap (λ (z : ℕ). z == 1) (sym (shifted word from run) ∙ clear)
    where
      clear : bit_at high run ≡ 0
      clear = elim (cases_lt (high + 1) (2 ^ 64)) [
        | inl some ↦ ap (bit_at high) is ∙ (bit_at-trailing_ones w64 high some).1
        | inr all ↦
            let none : 2 ^ 64 - 1 - high ≡ 0 = omega (arith, all, small) in
            let long : run ≡ 64 = is ∙ ap (count_trailing_zeros 64) none ∙ trailing_of_zero 64 in
            absurd (omega (arith, long, short))
      ]

-- a digit is 0 or 1
digit : (x : ℕ) → x < 2 → one_if (not (x == 1)) + x ≡ 1
digit zero h = refl
digit (suc zero) h = refl
digit (suc (suc x)) h = absurd (omega (arith, h))

-- the lowest bits, and the rest
counted : (b m : ℕ) → count_below (λ j. not (b / 2 ^ j % 2 == 1)) m + count_ones b ≡ m + count_ones (b / 2 ^ m)
unfolding sum_below
counted b zero =
    let one : b / 2 ^ 0 ≡ b = omega arith in
    let same : count_ones (b / 2 ^ 0) ≡ count_ones b = ap count_ones one in
    omega (arith, same)
counted b (suc m) =
    let rest = counted b m in
    let step = ones_step (b / 2 ^ m) in
    let half : b / 2 ^ m / 2 ≡ b / 2 ^ suc m = nat.div-div-eq-div-mul b (2 ^ m) 2 ∙ ap (λ (n : ℕ). b / n) (sym (nat.pow-suc 2 m)) in
    let more : count_ones (b / 2 ^ m / 2) ≡ count_ones (b / 2 ^ suc m) = ap count_ones half in
    let one = digit (b / 2 ^ m % 2) (omega arith) in
    omega (arith, rest, step, more, one)

-- the clear bits of a word from one up to another, by the set ones above them
module _ (word from end : ℕ) (order : from ≤ end) (some : 0 < end) where
  abbrev clear : ℕ
  clear = count_free_in (bit_of word) from end

  pub clear_by_ones : clear + count_ones (word / 2 ^ from) ≡ end - from + count_ones (word / 2 ^ (end - 1) / 2)
  clear_by_ones =
      let n = end - from in
      let all = counted (word / 2 ^ from) n in
      let up : from + n ≡ end = omega (arith, order) in
      let past : word / 2 ^ from / 2 ^ n ≡ word / 2 ^ end = nat.div-div-eq-div-mul word (2 ^ from) (2 ^ n)
      ∙ ap (λ (z : ℕ). word / z) (sym (pow-add 2 from n)) ∙ ap (λ (z : ℕ). word / 2 ^ z) up in
      let down : suc (end - 1) ≡ end = omega (arith, some) in
      let last : word / 2 ^ (end - 1) / 2 ≡ word / 2 ^ end = nat.div-div-eq-div-mul word (2 ^ (end - 1)) 2
      ∙ ap (λ (z : ℕ). word / z) (sym (nat.pow-suc 2 (end - 1))) ∙ ap (λ (z : ℕ). word / 2 ^ z) down in
      let ends : count_ones (word / 2 ^ from / 2 ^ n) ≡ count_ones (word / 2 ^ (end - 1) / 2) = ap count_ones (past ∙ sym last) in
      let its : count_below (λ j. not (bit_of (word / 2 ^ from) j)) n ≡ clear =
      same_sum (λ j. one_if (not (bit_of (word / 2 ^ from) j))) (λ j. one_if (not (bit_of word (j + from)))) n
      (λ j low. ap (λ z. one_if (not z)) (same j)) in
      omega (arith, all, ends, its)
    where
      same : (j : ℕ) → bit_of (word / 2 ^ from) j ≡ bit_of word (j + from)
      same j = let turned : from + j ≡ j + from = omega arith in ap (λ (z : ℕ). z == 1) (shifted word from j ∙ ap (bit_at word) turned)

  pub clear_most : clear + from ≤ end
  clear_most = let most = count_most (λ k. not (bit_of word (k + from))) (end - from) in omega (arith, most, order)

-- no bit of 0 is set
no_ones : count_ones 0 ≡ 0
unfolding ones
no_ones = refl

-- the clear bits of a whole word
pub whole_clear : (word from end : ℕ) → word < 2 ^ 64 → from ≡ 0 → end ≡ 64 → count_free_in (bit_of word) from end + count_ones word ≡ 64
whole_clear word from end fits first last =
    let all = clear_by_ones word from end (omega (arith, first)) (omega (arith, last)) in
    let one : word / 2 ^ 0 ≡ word = omega arith in
    let none : word / 2 ^ (64 - 1) / 2 ≡ 0 = omega (arith, fits) in
    let low : count_ones (word / 2 ^ from) ≡ count_ones word = ap count_ones (ap (λ (z : ℕ). word / 2 ^ z) first ∙ one) in
    let past : count_ones (word / 2 ^ (end - 1) / 2) ≡ 0 = ap count_ones (ap (λ (z : ℕ). word / 2 ^ (z - 1) / 2) last ∙ none) ∙ no_ones in
    omega (arith, all, low, past, first, last)

-- where of two just one holds, as many hold in all
one_of_each : (f g : ℕ → Bool) (n : ℕ) → ((j : ℕ) → j < n → one_if (f j) + one_if (g j) ≡ 1) → count_below f n + count_below g n ≡ n
unfolding sum_below
one_of_each f g zero each = refl
one_of_each f g (suc n) each =
    let rest = one_of_each f g n (λ j low. each j (omega (arith, low))) in
    let last = each n (omega arith) in
    omega (arith, rest, last)

opposite : (x : ℕ) → x < 2 → one_if (not (1 - x == 1)) + one_if (not (x == 1)) ≡ 1
opposite zero h = refl
opposite (suc zero) h = refl
opposite (suc (suc x)) h = absurd (omega (arith, h))

-- as many bits are set in the opposite of a word as are clear in it
pub opposite_ones : (word : ℕ) → word < 2 ^ 64 → count_ones (2 ^ 64 - 1 - word) + count_ones word ≡ 64
opposite_ones word fits =
    let other : ℕ = 2 ^ 64 - 1 - word in
    let a = counted other 64 in
    let b = counted word 64 in
    let none : other / 2 ^ 64 ≡ 0 = omega (arith, fits) in
    let nothing : word / 2 ^ 64 ≡ 0 = omega (arith, fits) in
    let p : count_ones (other / 2 ^ 64) ≡ 0 = ap count_ones none ∙ no_ones in
    let q : count_ones (word / 2 ^ 64) ≡ 0 = ap count_ones nothing ∙ no_ones in
    let both = one_of_each (λ j. not (bit_of other j)) (λ j. not (bit_of word j)) 64 each in
    omega (arith, a, b, p, q, both)
  where
    each : (j : ℕ) → j < 64 → one_if (not (bit_of (2 ^ 64 - 1 - word) j)) + one_if (not (bit_of word j)) ≡ 1
    each j low = ap (λ (x : ℕ). one_if (not (x == 1)) + one_if (not (bit_of word j))) (bit_at_not w64 word j fits low)
        ∙ opposite (bit_at word j) (bit_at-lt word j)
