-- What the table of digits says of each byte: it is held against the definitions at all 256, by computing.
use Rattle.std.proofs.Common.{◌≡◌, ℕ, zero, suc, ◌<◌, Bool, true, false, ◌&&◌, nat_lt, get_or, refl, arith, inl, inr, bit_and}
use Rattle.std.specs.Bool.{beq}
use Rattle.std.proofs.Math.Dec.{eqb}
use Rattle.std.proofs.lemmas.Bool.{cases_eq, eqb-true}
use Rattle.call_text.specs.declared.bytes.TheConstants.{DIGITS}
use Rattle.call_text.specs.Bytes.{is_hex_digit, hex_digit}

-- a test holds of each number below n
all_below : (ℕ → Bool) → ℕ → Bool
all_below f zero = true
all_below f (suc n) = f n && all_below f n

both_of : (x y : Bool) → (x && y) ≡ true → (x ≡ true) × (y ≡ true)
both_of true true h = (refl, refl)
both_of true false h = cc
both_of false y h = cc

below : (f : ℕ → Bool) (n : ℕ) → all_below f n ≡ true → (b : ℕ) → b < n → f b ≡ true
unfolding all_below
below f zero h b lt = absurd (omega arith)
below f (suc n) h b lt =
    let both = both_of (f n) (all_below f n) h in
    elim (cases_eq b n) [ inl same ↦ rw same both.0 | inr other ↦ below f n both.1 b (omega arith) ]

same_of : (x y : Bool) → beq x y ≡ true → x ≡ y
same_of true true h = refl
same_of true false h = cc
same_of false true h = cc
same_of false false h = refl

-- the table has a number below 16 for digits alone
pub is_digit : (b : ℕ) → b < 256 → nat_lt (get_or DIGITS b 0) 16 ≡ is_hex_digit b
unfolding all_below
is_digit b lt = same_of _ _ (below (λ k. beq (nat_lt (get_or DIGITS k 0) 16) (is_hex_digit k)) 256 refl b lt)

-- the low four bits of its numbers are the digits' numbers, and 0 for a byte that is none
pub number_of : (b : ℕ) → b < 256 → bit_and (get_or DIGITS b 0) 15 ≡ hex_digit b
unfolding all_below
number_of b lt = eqb-true _ _ (below (λ k. eqb (bit_and (get_or DIGITS k 0) 15) (hex_digit k)) 256 refl b lt)
