-- Worked rows of media, by computation: sectors of one byte stand for whole ones.
use Rattle.std.specs.Prelude.{◌≡◌, [], ◌∷◌, Ok, Err, refl}
use Rattle.media.specs.Contents.{MediaState, contents_after, adopted, Adopt, Write, Tear}
use Rattle.media.specs.Answers.{write_answer}
use Rattle.media.specs.declared.SectorRefusal.TheVariants.{Revoked, PastEnd}

-- two sectors, generation 2 adopted
abbrev second : MediaState
second = adopted (record { sectors = (0 ∷ []) ∷ (1 ∷ []) ∷ []; generation = 0 }) 2

-- a write of an earlier generation changes nothing, and a generation that isn't greater isn't adopted
row_stale : contents_after ((0 ∷ []) ∷ (1 ∷ []) ∷ []) (Adopt 1 ∷ Write 1 0 (7 ∷ []) ∷ Adopt 2 ∷ Write 1 0 (8 ∷ []) ∷ Tear 1 1 (9 ∷ []) ∷ Adopt 1 ∷ Write 2 1 (5 ∷ []) ∷ [])
    ≡ (7 ∷ []) ∷ (5 ∷ []) ∷ []
row_stale = refl

-- at first generation 0 is the current one; past the end nothing changes
row_first : contents_after ((0 ∷ []) ∷ []) (Write 0 0 (7 ∷ []) ∷ Write 0 1 (8 ∷ []) ∷ Write 1 0 (9 ∷ []) ∷ []) ≡ (7 ∷ []) ∷ []
row_first = refl

-- a tear is a write by another name
row_tear : contents_after ((0 ∷ []) ∷ []) (Adopt 3 ∷ Tear 3 0 (7 ∷ []) ∷ []) ≡ (7 ∷ []) ∷ []
row_tear = refl

-- after generation 2 was adopted, generation 1 is refused before the sector is looked at
row_revoked : write_answer second 1 999999 ≡ Err Revoked
row_revoked = refl

-- under generation 2 the sector is looked at
row_past_end : write_answer second 2 999999 ≡ Err PastEnd
row_past_end = refl

-- adopting generation 1 then changes nothing: generation 2 may write
row_accepted : write_answer (adopted second 1) 2 0 ≡ Ok tt
row_accepted = refl
