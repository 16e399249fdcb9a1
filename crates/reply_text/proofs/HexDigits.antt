-- The digits that `hex` writes are those of the texts.
use Rattle.std.proofs.Common.{◌≡◌, ℕ, zero, suc, ◌/◌, ◌%◌, ◌<◌, List, [], ◌∷◌, Bool, true, false, ◌==◌, ◌&&◌, slice_index, nat_lt}
use Rattle.std.proofs.Common.{refl, sym, ap, ◌∙◌, inl, inr, ltb-true, arith}
use Rattle.std.specs.Prelude.{Result, Ok, Err, IsOk, MatchResult}
use Rattle.std.specs.List.{list_all}
use Rattle.std.proofs.lemmas.Str.Ascii.{IsAscii-nil, IsAscii-cons}
use Rattle.std.proofs.lemmas.Bool.{and_parts, cases_lt, eqb-true}
use Rattle.std.specs.Fmt.{digits, digit_glyph}
use Rattle.std.proofs.lemmas.Fmt.{hex_one_digit}
use Rattle.std.specs.Str.{IsAscii, IsUtf8}
use Rattle.std.proofs.lemmas.Str.{IsUtf8-from_ascii}
use Rattle.hex.specs.Hex.{IsBytes, encode_lower, encode_with, lower_digits}
use Rattle.hex.proofs.HexLemmas.{IsAscii-encode_with}
use Rattle.reply_text.specs.Text.{hex_text}

-- whether the first n digits of the table are those that numbers are written with
abbrev agree : ℕ → Bool
agree zero = true
agree (suc n) = (slice_index lower_digits n == digit_glyph false n) && agree n

-- what that test shows of one of them
agree-at : (n k : ℕ) → agree n ≡ true → k < n → slice_index lower_digits k ≡ digit_glyph false k
agree-at zero k h below = absurd (omega arith)
agree-at (suc n) k h below =
    let parts = and_parts (slice_index lower_digits n == digit_glyph false n) (agree n) h in
    elim (cases_lt k n) [
      | inl lower ↦ agree-at n k parts.1 lower
      | inr top ↦
          let e : k ≡ n = omega arith in
          rw e (eqb-true (slice_index lower_digits n) (digit_glyph false n) parts.0)
    ]

-- one digit
digit_is : (n : ℕ) → n < 16 → slice_index lower_digits n ∷ [] ≡ digits 16 false n
digit_is n small = ap (λ (d : ℕ). d ∷ []) (agree-at 16 n refl small) ∙ sym (hex_one_digit false n small)

-- the digits of bytes, in lower case, are their text
pub encode_lower-is : (bytes : List ℕ) → IsBytes bytes → encode_lower bytes ≡ hex_text bytes
unfolding encode_with
encode_lower-is [] small = refl
encode_lower-is (b ∷ bytes) small =
    let fits : b < 256 = small 0 in
    let high : slice_index lower_digits (b / 16) ∷ [] ≡ digits 16 false (b / 16) = digit_is (b / 16) (omega arith) in
    let low : slice_index lower_digits (b % 16) ∷ [] ≡ digits 16 false (b % 16) = digit_is (b % 16) (omega arith) in
    let rest : encode_lower bytes ≡ hex_text bytes = encode_lower-is bytes (λ k. small (suc k)) in
    rw (← high, ← low, ← rest) refl

-- bytes that pass the test are ASCII
ascii_from : (bytes : List ℕ) → list_all (λ b. nat_lt b 128) bytes ≡ true → IsAscii bytes
ascii_from [] h = IsAscii-nil
ascii_from (b ∷ bytes) h =
    let parts = and_parts (nat_lt b 128) (list_all (λ b. nat_lt b 128) bytes) h in
    IsAscii-cons b bytes (ltb-true b 128 parts.0) (ascii_from bytes parts.1)

-- they are ASCII, and so text
pub encode_lower-utf8 : (bytes : List ℕ) → IsUtf8 (encode_lower bytes)
encode_lower-utf8 bytes = IsUtf8-from_ascii (encode_lower bytes) (IsAscii-encode_with lower_digits bytes (ascii_from lower_digits refl))

-- what is refused only where it is no text isn't refused where it is
pub ok_of_text : {A E U : Type 0} (P : A → Type 0) (Q : E → Type 0) (r : Result A E) → MatchResult r P (λ e. ¬ U × Q e) → U → IsOk r
ok_of_text P Q (Ok x) h is = refl
ok_of_text P Q (Err e) h is = absurd (h.0 is)
