-- Bits of a word.
use Rattle.std.specs.Prelude.{ℕ, ◌/◌, ◌%◌, ◌^◌, ◌==◌, Bool}

-- bit j of a word, bit 0 the lowest
abbrev pub bit_of : ℕ → ℕ → Bool
bit_of word j = word / 2 ^ j % 2 == 1
