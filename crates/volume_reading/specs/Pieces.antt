-- Pieces of a volume's range, one behind the other.
use Rattle.std.specs.Prelude.{◌≡◌, ◌⊎◌, ℕ, ◌+◌, ◌<◌, ◌≤◌, ◌%◌, List, [], ◌∷◌, length, slice_index}

-- a piece of a range: where it begins, and its bytes
pub record Piece : Type 0 where
  pub start : ℕ
  pub bytes : List ℕ

-- a piece's places with their bytes are so
abbrev pub HasBytes : (ℕ → ℕ → Type 0) → Piece → Type 0
HasBytes P p = (k : ℕ) → k < length p.bytes → P (p.start + k) (slice_index p.bytes k)

-- those of each piece are so
abbrev pub HaveBytes : (ℕ → ℕ → Type 0) → List Piece → Type 0
HaveBytes P [] = Unit {0}
HaveBytes P (p ∷ ps) = HasBytes P p × HaveBytes P ps

-- one of the pieces has this place
abbrev pub IsIn : List Piece → ℕ → Type 0
IsIn [] place = ⊥
IsIn (p ∷ ps) place = ((p.start ≤ place) × (place < p.start + length p.bytes)) ⊎ IsIn ps place

-- each is whole sectors, behind the one before it, the first from this place on; and none reaches past this end
abbrev pub ArePieces : ℕ → ℕ → List Piece → Type 0
ArePieces from to [] = Unit {0}
ArePieces from to (p ∷ ps) =
    (from ≤ p.start) × (p.start % 512 ≡ 0) × (length p.bytes % 512 ≡ 0) × (p.start + length p.bytes ≤ to)
    × ArePieces (p.start + length p.bytes) to ps
