-- The numbers in a block's bytes.
use Rattle.std.specs.Prelude.{◌≡◌, ◌≢◌, ℕ, ◌+◌, ◌*◌, ◌<◌, List, length, slice_index, Option, None, Some}
use Rattle.layout.specs.Bytes.{u32_at}

-- the last number in these bytes, before one of them, that isn't 0, or there is none
abbrev pub IsLastWord : List ℕ → ℕ → Option ℕ → Type 0
IsLastWord bytes before None = (i : ℕ) → i < before → u32_at bytes (4 * i) ≡ 0
IsLastWord bytes before (Some j) =
    (j < before) × (u32_at bytes (4 * j) ≢ 0) × ((i : ℕ) → j < i → i < before → u32_at bytes (4 * i) ≡ 0)

-- these numbers stand side by side in a block's bytes, from one of them on
abbrev pub HasWords : ℕ → List ℕ → List ℕ → Type 0
HasWords from words bytes = (k : ℕ) → k < length words → slice_index words k ≡ u32_at bytes (4 * (from + k))
