-- Laws of rows of bytes that are changed.
use Rattle.std.specs.Prelude.{◌≡◌, ℕ, ◌+◌, ◌<◌, ◌≤◌, ◌^◌, ◌⊎◌, List, length}
use Rattle.std.specs.Int.{w32, to_le_bytes}
use Rattle.volume.specs.Reading.{u32_in}
use Rattle.block_store.specs.Rows.{with_bytes, HasBytes}

-- bytes that were put into a row stand in it, and all others are as they were
abbrev pub BytesAreThere : Type 0
BytesAreThere = (from : ℕ) (bytes : List ℕ) (row : ℕ → ℕ) → HasBytes from bytes (with_bytes from bytes row)

abbrev pub OthersStay : Type 0
OthersStay = (from : ℕ) (bytes : List ℕ) (row : ℕ → ℕ) (o : ℕ) → (o < from) ⊎ (from + length bytes ≤ o) → with_bytes from bytes row o ≡ row o

-- a number whose four bytes were put into a row is read there
abbrev pub NumberIsRead : Type 0
NumberIsRead = (from n : ℕ) (row : ℕ → ℕ) → n < 2 ^ 32 → u32_in (with_bytes from (to_le_bytes w32 n) row) from ≡ n
