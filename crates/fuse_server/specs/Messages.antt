-- What stands at the head of a message.
use Rattle.std.specs.Prelude.{ℕ, Bool, ◌||◌, ◌==◌, List, [], ◌∷◌, slice_index}
use Rattle.std.specs.Int.{w32, w64, from_le_bytes}

-- which request it is: its bytes 4 to 7, counted from 0
abbrev pub opcode_in : List ℕ → ℕ
opcode_in bytes =
    from_le_bytes w32 (slice_index bytes 4 ∷ slice_index bytes 5 ∷ slice_index bytes 6 ∷ slice_index bytes 7 ∷ [])

-- the number by which its answer names it: its bytes 8 to 15
abbrev pub unique_in : List ℕ → ℕ
unique_in bytes =
    from_le_bytes w64 (slice_index bytes 8 ∷ slice_index bytes 9 ∷ slice_index bytes 10 ∷ slice_index bytes 11 ∷ slice_index bytes 12
    ∷ slice_index bytes 13 ∷ slice_index bytes 14 ∷ slice_index bytes 15 ∷ [])

-- FORGET, INTERRUPT and BATCH_FORGET have no answer
abbrev pub is_silent : ℕ → Bool
is_silent opcode = (opcode == 2) || (opcode == 36) || (opcode == 42)
