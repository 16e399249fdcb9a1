-- The order in which places were used last, by numbers: a lower one was used longer ago.
use Rattle.std.specs.Prelude.{◌≡◌, ◌≢◌, ℕ, ◌<◌, ◌≤◌, List, length, slice_index, nat_lt}
use Rattle.std.specs.List.{filter}

-- each number is below this one
pub record AllBelow (numbers : List ℕ) (next : ℕ) : Type 0 where
  pub each : (i : ℕ) → i < length numbers → slice_index numbers i < next

-- each other place has a lower number
pub record IsNewest (numbers : List ℕ) (at : ℕ) : Type 0 where
  pub above : (i : ℕ) → i < length numbers → i ≢ at → slice_index numbers i < slice_index numbers at

-- how many of them are lower
abbrev pub rank : ℕ → List ℕ → ℕ
rank number numbers = length (filter (λ other. nat_lt other number) numbers)

-- other numbers, in the same order
pub record KeepsOrder (old new : List ℕ) : Type 0 where
  pub count : length new ≡ length old
  pub order : (i j : ℕ) → i < length old → j < length old
      → nat_lt (slice_index new i) (slice_index new j) ≡ nat_lt (slice_index old i) (slice_index old j)

-- this place was used after all others, which stay in their order
pub record IsUsedLast (old new : List ℕ) (at : ℕ) : Type 0 where
  pub count : length new ≡ length old
  pub last : (i : ℕ) → i < length old → (i ≡ at → ⊥) → slice_index new i < slice_index new at
  pub order : (i j : ℕ) → i < length old → j < length old → (i ≡ at → ⊥) → (j ≡ at → ⊥)
      → nat_lt (slice_index new i) (slice_index new j) ≡ nat_lt (slice_index old i) (slice_index old j)

-- so many places: those that there were, and behind them others, which have the number 0
pub record IsLonger (old new : List ℕ) (count : ℕ) : Type 0 where
  pub count_is : length new ≡ count
  pub kept : (i : ℕ) → i < length old → slice_index new i ≡ slice_index old i
  pub unused : (i : ℕ) → length old ≤ i → i < count → slice_index new i ≡ 0

-- the other places have the numbers that they had
pub record OthersKeep (old new : List ℕ) (at : ℕ) : Type 0 where
  pub each : (i : ℕ) → i ≢ at → slice_index new i ≡ slice_index old i
