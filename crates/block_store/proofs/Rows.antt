-- Rows of bytes that are changed.
use Rattle.std.proofs.Common.{◌≡◌, ◌<◌, ◌≤◌, ◌+◌, ◌/◌, ◌%◌, ◌^◌, ℕ, List, length, refl, sym, ap, ◌∙◌, arith, Bool, true, false}
use mathlib.Core.Logic.{inl, inr}
use Rattle.std.specs.Prelude.{◌⊎◌, nat_le, nat_lt, ◌&&◌, slice_index}
use Rattle.std.proofs.lemmas.Bool.{and_from, le-leb, lt-ltb, le-ltb, lt-leb, cond-true, cond-false}
use Rattle.std.specs.Int.{w32, to_le_bytes}
use Rattle.volume.specs.Reading.{u32_in}
use Rattle.block_store.specs.Rows.{with_bytes, HasBytes}

-- the new ones
pub row_new : (from : ℕ) (bytes : List ℕ) (row : ℕ → ℕ) (k : ℕ) → k < length bytes → with_bytes from bytes row (from + k) ≡ slice_index bytes k
row_new from bytes row k h =
    cond-true (nat_le from (from + k) && nat_lt (from + k) (from + length bytes)) _ _
    (and_from (nat_le from (from + k)) (nat_lt (from + k) (from + length bytes)) (le-leb from (from + k) (omega arith)) (lt-ltb (from + k) (from + length bytes) (omega arith)))
    ∙ ap (slice_index bytes) (omega arith)

-- and the old ones before and behind them
pub row_old : (from : ℕ) (bytes : List ℕ) (row : ℕ → ℕ) (o : ℕ) → (o < from) ⊎ (from + length bytes ≤ o) → with_bytes from bytes row o ≡ row o
row_old from bytes row o h = cond-false (nat_le from o && nat_lt o (from + length bytes)) _ _ (elim h [
  | inl l ↦ ap (λ b. b && nat_lt o (from + length bytes)) (lt-leb from o l)
  | inr l ↦ by (nat_le from o) (nat_lt o (from + length bytes)) (le-ltb o (from + length bytes) l)
])
  where
    by : (a b : Bool) → b ≡ false → (a && b) ≡ false
    by true b e = e
    by false b e = refl

-- the number that was written is read
pub number_written : (from n : ℕ) (row : ℕ → ℕ) → n < 2 ^ 32 → u32_in (with_bytes from (to_le_bytes w32 n) row) from ≡ n
number_written from n row h =
    let new = with_bytes from (to_le_bytes w32 n) row in
    let b0 : new from ≡ n % 256 = ap new (omega arith) ∙ row_new from (to_le_bytes w32 n) row 0 (omega arith) in
    let b1 : new (from + 1) ≡ n / 256 % 256 = row_new from (to_le_bytes w32 n) row 1 (omega arith) in
    let b2 : new (from + 2) ≡ n / 65536 % 256 = row_new from (to_le_bytes w32 n) row 2 (omega arith) in
    let b3 : new (from + 2 + 1) ≡ n / 16777216 % 256 = ap new (omega arith) ∙ row_new from (to_le_bytes w32 n) row 3 (omega arith) in
    omega (arith, h, b0, b1, b2, b3)

-- the new bytes stand in the row
pub bytes_are_there : (from : ℕ) (bytes : List ℕ) (row : ℕ → ℕ) → HasBytes from bytes (with_bytes from bytes row)
bytes_are_there from bytes row = λ k low. sym (row_new from bytes row k low)
