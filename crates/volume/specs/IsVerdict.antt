-- What the verdict is, apart from how it is looked for: of the findings that are true of an image, the least.
use Rattle.std.specs.Prelude.{◌≡◌, ◌<◌, ℕ, ◌+◌, List, [], ◌∷◌, Bool, true, false, ◌&&◌, ◌==◌, Ok, Err, if◌then◌else◌}
use Rattle.layout.specs.Places.{geometry_of, refusal_number}
use Rattle.volume.specs.declared.Finding.{Finding}
use Rattle.volume.specs.Reading.{disk_of}
use Rattle.volume.specs.Pieces.{pieces}
use Rattle.volume.specs.Verdict.{Verdict, Clean, Found, Test, tests, verdict_of}

-- of the tests, which are numbered from k on, the one with this number is true at this place
abbrev pub is_true_at : ℕ → List Test → ℕ → ℕ → Bool
is_true_at k [] number place = false
is_true_at k (test ∷ tests) number place = if number == k then test place else is_true_at (k + 1) tests number place

-- the finding of this number is true of an image at this place: number 1 of a refused layout, the others of one that is read
abbrev pub is_finding : List ℕ → ℕ → ℕ → Bool
is_finding image number place = elim (geometry_of image) [
  | Err refusal ↦ (number == 1) && (place == refusal_number refusal)
  | Ok g ↦ is_true_at 2 (tests g (pieces g (disk_of g image))) number place
]

-- a finding that is true, where none of a lesser number is true anywhere and its own at no lesser place
pub record IsLeastFinding (image : List ℕ) (f : Finding) : Type 0 where
  pub true_there : is_finding image f.number f.place ≡ true
  pub no_lesser_number : (number place : ℕ) → number < f.number → is_finding image number place ≡ false
  pub no_lesser_place : (place : ℕ) → place < f.place → is_finding image f.number place ≡ false

-- a verdict that says what is true of an image: none of the findings, or the least
abbrev pub IsVerdict : List ℕ → Verdict → Type 0
IsVerdict image Clean = (number place : ℕ) → is_finding image number place ≡ false
IsVerdict image (Found f) = IsLeastFinding image f

-- the verdict is the least finding
abbrev pub VerdictIsLeast : Type 0
VerdictIsLeast = (image : List ℕ) → IsVerdict image (verdict_of image)
