-- The units of an image, and which of them are marked.
use Rattle.std.specs.Prelude.{◌≡◌, ℕ, ◌+◌, ◌-◌, ◌*◌, ◌/◌, List, [], ◌∷◌, ◌++◌, Bool, true, false, length, take, drop, map, fold, replicate, slice_set, if◌then◌else◌}
use Rattle.std.specs.List.{zip}
use Rattle.std.proofs.Common.{get_or}
use Rattle.stable.specs.Disk.{Contents, Changes as Puts}
use Rattle.changes.specs.declared.taken.Changes.{Changes}

-- at most 4096 bytes, and zeros behind them
abbrev pub padded : List ℕ → List ℕ
padded bytes = bytes ++ replicate (4096 - length bytes) 0

-- unit n of an image: its bytes from 4096 · n on, zeros behind the image's end
abbrev pub unit_of : List ℕ → Contents
unit_of image n = padded (take 4096 (drop (4096 * n) image))

-- how many units an image has; the last one may be cut
abbrev pub units_in : List ℕ → ℕ
units_in image = (length image + 4095) / 4096

-- whether unit n is marked
abbrev pub is_marked : List Bool → ℕ → Bool
is_marked marks n = get_or marks n false

-- each unit is marked that these others have
abbrev pub Covers : List Bool → List Bool → Type 0
Covers marks others = (n : ℕ) → is_marked others n ≡ true → is_marked marks n ≡ true

-- the numbers of those that are marked, the first one having this number
abbrev pub marked_from : ℕ → List Bool → List ℕ
marked_from n [] = []
marked_from n (b ∷ marks) = if b then n ∷ marked_from (n + 1) marks else marked_from (n + 1) marks

-- the numbers of the units that are marked, ascending
abbrev pub marked : List Bool → List ℕ
marked marks = marked_from 0 marks

-- unit n is marked too, if there is one
abbrev pub with_mark : List Bool → ℕ → List Bool
with_mark marks n = slice_set marks n true

-- these units are marked too
abbrev pub with_marks : List Bool → List ℕ → List Bool
with_marks marks numbers = fold with_mark marks numbers

-- changes are exactly the marked units of an image, with their bytes
pub record AreTaken (marks : List Bool) (image : List ℕ) (changes : Changes) : Type 0 where
  pub numbers : changes.numbers.items ≡ marked marks
  pub units : changes.units.items ≡ map (unit_of image) (marked marks)

-- what is put for these changes, as `stable` has it
abbrev pub puts_of : Changes → Puts
puts_of changes = zip changes.numbers.items changes.units.items

-- contents are those of an image in each unit that isn't marked
abbrev pub AgreesBut : List Bool → Contents → List ℕ → Type 0
AgreesBut marks contents image = (n : ℕ) → is_marked marks n ≡ false → contents n ≡ unit_of image n
