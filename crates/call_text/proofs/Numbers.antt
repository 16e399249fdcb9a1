-- Words that are numbers, and words that aren't.
use Rattle.std.proofs.Common.{◌≡◌, ℕ, ◌+◌, ◌*◌, ◌<◌, ◌≤◌, ◌&&◌, nat_le, get_or, List, length, take, true, false, cond, ap, arith, Option, Some, None, lit≤}
use Rattle.std.specs.List.{list_all}
use Rattle.std.specs.Char.{is_digit, digit_value}
use Rattle.std.specs.Str.Parse.{digits_value}
use Rattle.std.proofs.lemmas.Bool.Decides.{nat_tests}
use Rattle.std.proofs.lemmas.List.Folds.{list_all_at}
use Rattle.std.proofs.lemmas.Int.Digits.{digits_value_more}
use Rattle.std.proofs.lemmas.Str.Parse.{digits_value-take-le}
use Rattle.call_text.specs.Words.{is_number, number_in}

-- a number is none where its test fails
number_fails : (radix most : ℕ) (word : List ℕ) → (is_number radix word && nat_le (digits_value radix word) most) ≡ false → number_in radix most word ≡ None
number_fails radix most word h = ap (λ b. cond b (Some (digits_value radix word)) None) h

-- a byte that is no digit
pub number_not_digit : (radix most : ℕ) (word : List ℕ) (i : ℕ) → i < length word → is_digit (get_or word i 0) radix ≡ false → number_in radix most word ≡ None
number_not_digit radix most word i inside fails =
    let none = list_all_at (λ b. is_digit b radix) word i 0 inside fails in
    number_fails radix most word (grind (arith, nat_tests))

-- digits so far that write more than the most
pub number_too_large : (radix most : ℕ) (word : List ℕ) (i value : ℕ) → 2 ≤ radix → i < length word → value ≡ digits_value radix (take i word)
    → most < value * radix + digit_value (get_or word i 0) → number_in radix most word ≡ None
number_too_large radix most word i value two inside is large =
    let more = digits_value_more radix word i inside in
    let first : 1 ≤ radix = omega arith in
    let least = digits_value-take-le radix word (i + 1) first in
    let known = rw is at large in
    let over : most < digits_value radix word = omega (arith, more, least, known) in
    number_fails radix most word (grind (arith, nat_tests))

-- digits that write no more than the most
pub number_is : (radix most : ℕ) (word : List ℕ) → 0 < length word → list_all (λ b. is_digit b radix) word ≡ true → digits_value radix word ≤ most
    → number_in radix most word ≡ Some (digits_value radix word)
number_is radix most word some digits few =
    let test : (is_number radix word && nat_le (digits_value radix word) most) ≡ true = grind (arith, nat_tests) in
    ap (λ b. cond b (Some (digits_value radix word)) None) test

-- a product that doesn't fit is over the most
pub over_product : (most value radix r d : ℕ) → r ≡ radix → (value * r < most + 1 → ⊥) → most < value * radix + d
over_product most value radix r d same h = let k = rw same at h in omega (arith, k)

-- nor does a sum
pub over_sum : (most value radix r p d f : ℕ) → r ≡ radix → p ≡ value * r → f ≡ d → (p + f < most + 1 → ⊥) → most < value * radix + d
over_sum most value radix r p d f same product digit h = let k = rw (product, same, digit) at h in omega (arith, k)

-- one digit more
pub value_more : (radix : ℕ) (word : List ℕ) (i value r p f next : ℕ) → i < length word → value ≡ digits_value radix (take i word) → r ≡ radix → p ≡ value * r
    → f ≡ digit_value (get_or word i 0) → next ≡ p + f → next ≡ digits_value radix (take (i + 1) word)
value_more radix word i value r p f next inside is same product digit sum = let more = digits_value_more radix word i inside in cc
