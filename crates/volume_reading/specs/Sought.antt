-- The reads of a range that are pending, and where their bytes go.
use Rattle.std.specs.Prelude.{◌≡◌, ◌⊎◌, ℕ, ◌+◌, ◌-◌, ◌<◌, ◌≤◌, ◌==◌, min, List, [], ◌∷◌, length, Option, Some, None, Bool, if◌then◌else◌, slice_index}
use Rattle.reissue.specs.Moves.{Begun}
use Rattle.volume_reading.specs.declared.sought.Sought.{Sought}

-- how many bytes are asked for from this place of a range of so many on
abbrev pub piece_size : ℕ → ℕ → ℕ
piece_size size at = min 4096 (size - at)

-- it has this ticket
abbrev pub is_for : ℕ → Sought → Bool
is_for t s = s.ticket == t

-- where the bytes of the read with this ticket go
abbrev pub place_of : List Sought → ℕ → Option ℕ
place_of [] t = None
place_of (s ∷ asked) t = if s.ticket == t then Some s.at else place_of asked t

-- the others
abbrev pub without_ticket : ℕ → List Sought → List Sought
without_ticket t [] = []
without_ticket t (s ∷ asked) = if s.ticket == t then asked else s ∷ without_ticket t asked

-- the read of a piece of the range that begins at start
abbrev pub piece : ℕ → ℕ → ℕ → Begun
piece start size at = record { start = start + at; size = piece_size size at; written = None }

-- of a piece, if there is one
abbrev pub piece_at : ℕ → ℕ → Option ℕ → Option Begun
piece_at start size None = None
piece_at start size (Some at) = Some (piece start size at)

-- the reads by their tickets
abbrev pub pieces_of : ℕ → ℕ → List Sought → ℕ → Option Begun
pieces_of start size asked t = piece_at start size (place_of asked t)

-- no two have one ticket
abbrev pub AreDistinct : List Sought → Type 0
AreDistinct [] = Unit {0}
AreDistinct (s ∷ asked) = (place_of asked s.ticket ≡ None) × AreDistinct asked

-- each piece lies before this place, which isn't past the range's end
abbrev pub AreBefore : ℕ → ℕ → List Sought → Type 0
AreBefore size next [] = Unit {0}
AreBefore size next (s ∷ asked) = (s.at ≤ size) × (s.at + piece_size size s.at ≤ next) × AreBefore size next asked

-- a piece's bytes were put into their places, and no other byte changed
pub record PutsPiece (at : ℕ) (bytes before after : List ℕ) : Type 0 where
  pub same_length : length after ≡ length before
  pub inside : (k : ℕ) → k < piece_size (length before) at → slice_index after (at + k) ≡ slice_index bytes k
  pub outside : (k : ℕ) → (k < at) ⊎ (at + piece_size (length before) at ≤ k) → slice_index after k ≡ slice_index before k

-- where there is one
abbrev pub PutsAt : Option ℕ → List ℕ → List ℕ → List ℕ → Type 0
PutsAt None bytes before after = after ≡ before
PutsAt (Some at) bytes before after = PutsPiece at bytes before after
