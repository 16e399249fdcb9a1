-- Sets of numbers: which are free, and how many. A number that isn't in the set is free.
use Rattle.std.specs.Prelude.{◌≡◌, ℕ, ◌≤◌, ◌<◌, ◌+◌, ◌-◌, ◌/◌, not, Bool, true, false, Option, Some, None}
use Rattle.lemmas.specs.Sums.{count_below}

-- each number from one up to another is in the set
abbrev pub AllIn : (ℕ → Bool) → ℕ → ℕ → Type 0
AllIn set from end = (j : ℕ) → from ≤ j → j < end → set j ≡ true

-- the lowest free number from one up to another, if there is one
abbrev pub IsLowestFree : Option ℕ → (ℕ → Bool) → ℕ → ℕ → Type 0
IsLowestFree (Some n) set from end = (from ≤ n) × (n < end) × (set n ≡ false) × AllIn set from n
IsLowestFree None set from end = AllIn set from end

-- how many numbers from one up to another are free
abbrev pub count_free_in : (ℕ → Bool) → ℕ → ℕ → ℕ
count_free_in set from end = count_below (λ k. not (set (k + from))) (end - from)

-- how many words of 64 bits hold so many bits
abbrev pub words_for : ℕ → ℕ
words_for bits = (bits + 63) / 64
