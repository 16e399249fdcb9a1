-- Messages in a stream.
use Rattle.std.specs.Prelude.{◌≡◌, ◌≤◌, ◌<◌, ◌⊎◌, ◌++◌, ℕ, List, length, take, Option}
use Rattle.std.specs.Int.{w32, from_le_bytes}
use Rattle.std.specs.Io.KnownBytes.{Consumes}

-- the size that a message names, in its first four bytes, the lowest first
abbrev pub size_named : List ℕ → ℕ
size_named bytes = from_le_bytes w32 (take 4 bytes)

-- a message: so many bytes at least, and as many as it names
pub record IsMessage (fewest : ℕ) (bytes : List ℕ) : Type 0 where
  pub size : size_named bytes ≡ length bytes
  pub least : fewest ≤ length bytes

-- a beginning of a message, which it leaves: not all of its size, or fewer bytes than it names, where that is a size that it may have
abbrev pub IsCutShort : ℕ → ℕ → List ℕ → Type 0
IsCutShort fewest most bytes = (0 < length bytes)
    × ((length bytes < 4) ⊎ ((fewest ≤ size_named bytes) × (size_named bytes ≤ most) × (length bytes < size_named bytes)))

-- bytes were taken from a stream, and stand behind others
abbrev pub TakesMore : Option (List ℕ) → Option (List ℕ) → List ℕ → List ℕ → Type 0
TakesMore before after old new = (part : List ℕ) × (new ≡ old ++ part) × Consumes before after part
