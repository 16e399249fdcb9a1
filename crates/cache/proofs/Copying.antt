-- Bytes of a block that are copied.
use Rattle.std.proofs.Common.{◌≡◌, ℕ, ◌+◌, ◌-◌, ◌<◌, List, length, take, get_or-take, refl, ap, ◌∙◌, arith, Bool, true, false, Option, Some}
use Rattle.std.specs.Prelude.{◌&&◌, nat_le, nat_lt, slice_index, if◌then◌else◌}
use Rattle.std.proofs.lemmas.Bool.Decides.{nat_tests}
use Rattle.lemmas.proofs.Bools.{and_left, and_right}
use Rattle.cache.specs.declared.slot.Slot.{Slot}
use Rattle.cache.specs.Runs.{IsCopied}

-- the front of a row, put in from a place on
abbrev with_front : ℕ → ℕ → List ℕ → List ℕ → ℕ → ℕ
with_front n from row old k =
    if nat_le from k && nat_lt k (from + length (take n row)) then slice_index (take n row) (k - from) else slice_index old k

-- reads as the row itself there
front_is : (n from : ℕ) (row old : List ℕ) (k : ℕ) → length (take n row) ≡ n
    → with_front n from row old k ≡ (if nat_le from k && nat_lt k (from + n) then slice_index row (k - from) else slice_index old k)
front_is n from row old k len =
    ap (λ (m : ℕ). if nat_le from k && nat_lt k (from + m) then slice_index (take n row) (k - from) else slice_index old k) len
    ∙ by (nat_le from k && nat_lt k (from + n)) refl
  where
    by : (v : Bool) → (nat_le from k && nat_lt k (from + n)) ≡ v
        → (if v then slice_index (take n row) (k - from) else slice_index old k) ≡ (if v then slice_index row (k - from) else slice_index old k)
    by true e =
        let low : nat_le from k ≡ true = and_left (nat_le from k) _ e in
        let high : nat_lt k (from + n) ≡ true = and_right (nat_le from k) _ e in
        let lt : k - from < n = grind (arith, nat_tests) in
        get_or-take n row (k - from) 0 lt
    by false e = refl

-- the front of a block's bytes is copied
pub copied : (o : Option Slot) (s : Slot) (row : List ℕ) (size from : ℕ) (old new : List ℕ) → o ≡ Some s → row ≡ s.bytes.value
    → length (take size row) ≡ size → ((k : ℕ) → slice_index new k ≡ with_front size from row old k) → IsCopied o size from old new
copied o s row size from old new is bytes len each = record {
  slot = s;
  is = is;
  each = λ k lt. each k ∙ front_is size from row old k len
      ∙ ap (λ (l : List ℕ). if nat_le from k && nat_lt k (from + size) then slice_index l (k - from) else slice_index old k) bytes;
}
