-- Places of a volume's range, and the pieces that are read there, each of which is taken.
use Rattle.std.specs.Prelude.{◌≡◌, ℕ, ◌+◌, ◌≤◌, ◌%◌, List, [], ◌∷◌, length}
use Rattle.volume_reading.specs.declared.place.Place.{Place}
use Rattle.volume_reading.specs.Pieces.{Piece}

-- each is whole sectors and at most 1 MiB, behind the one before it, the first from this place on; and none reaches past this end
abbrev pub ArePlaces : ℕ → ℕ → List Place → Type 0
ArePlaces from to [] = Unit {0}
ArePlaces from to (p ∷ ps) =
    (from ≤ p.start) × (p.start % 512 ≡ 0) × (p.size % 512 ≡ 0) × (p.size ≤ 1048576) × (p.start + p.size ≤ to)
    × ArePlaces (p.start + p.size) to ps

-- pieces at these places, in order
abbrev pub AreAt : List Place → List Piece → Type 0
AreAt [] [] = Unit {0}
AreAt [] (q ∷ qs) = ⊥
AreAt (p ∷ ps) [] = ⊥
AreAt (p ∷ ps) (q ∷ qs) = (q.start ≡ p.start) × (length q.bytes ≡ p.size) × AreAt ps qs

-- pieces were taken, one after the other
abbrev pub AreTaken : {T : Type 0} → (T → Piece → T → Type 0) → T → List Piece → T → Type 0
AreTaken takes s [] t = t ≡ s
AreTaken {T} takes s (p ∷ ps) t = (u : T) × takes s p u × AreTaken takes u ps t
