-- What changes that were taken make of another image.
use Rattle.std.specs.Prelude.{◌≡◌, ◌<◌, ℕ, ◌+◌, ◌*◌, List, [], Bool, All, length}
use Rattle.std.specs.List.{concat}
use Rattle.std.proofs.Common.{get_or}
use Rattle.stable.specs.Disk.{Contents, put}
use Rattle.changes.specs.declared.taken.Changes.{Changes}
use Rattle.changes.specs.Units.{AgreesBut, AreTaken, puts_of, unit_of}

-- whatever contents agree with an image but in marked units, put with the changes they are the image, unit for unit
abbrev pub TakenIsAll : Type 0
TakenIsAll = (marks : List Bool) (image : List ℕ) (changes : Changes) (contents : Contents) → AreTaken marks image changes
    → AgreesBut marks contents image → (n : ℕ) → put (puts_of changes) contents n ≡ unit_of image n

-- sectors of 512 bytes each
abbrev pub AreSectors : List (List ℕ) → Type 0
AreSectors sectors = All (λ s. length s ≡ 512) sectors

-- the eight sectors of unit n are as they were
abbrev pub IsUnchanged : List (List ℕ) → List (List ℕ) → ℕ → Type 0
IsUnchanged old new n = (k : ℕ) → k < 8 → get_or new (8 * n + k) [] ≡ get_or old (8 * n + k) []

-- a unit whose sectors are as they were is as it was
abbrev pub StaysUnchanged : Type 0
StaysUnchanged = (old new : List (List ℕ)) (n : ℕ) → AreSectors old → AreSectors new → length new ≡ length old → IsUnchanged old new n
    → unit_of (concat new) n ≡ unit_of (concat old) n
