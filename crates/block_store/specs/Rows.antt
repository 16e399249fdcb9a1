-- Rows of bytes that are changed.
use Rattle.std.specs.Prelude.{◌≡◌, ℕ, ◌+◌, ◌-◌, ◌<◌, List, length, ◌&&◌, nat_le, nat_lt, if◌then◌else◌, slice_index}
use Rattle.volume.specs.Reading.{Disk}
use Rattle.lemmas.specs.Sums.{put}

-- these bytes from a place on, in a row of bytes
abbrev pub with_bytes : ℕ → List ℕ → (ℕ → ℕ) → ℕ → ℕ
with_bytes from bytes row o = if nat_le from o && nat_lt o (from + length bytes) then slice_index bytes (o - from) else row o

-- these bytes stand in a row, from a place on
abbrev pub HasBytes : ℕ → List ℕ → (ℕ → ℕ) → Type 0
HasBytes from bytes row = (k : ℕ) → k < length bytes → slice_index bytes k ≡ row (from + k)

-- these bytes from a place on, in a block of a disk
abbrev pub written : ℕ → ℕ → List ℕ → Disk → Disk
written block from bytes d = put d block (with_bytes from bytes (d block))

-- zero bytes in a block of a disk
abbrev pub cleared : ℕ → Disk → Disk
cleared block d = put d block (λ o. 0)
