-- The zones of a file by the numbers of its blocks: the single's, then the double's, then the triple's.
use Rattle.std.specs.Prelude.{◌≡◌, ℕ, ◌+◌, ◌*◌, Bool}
use Rattle.lemmas.specs.Sums.{one_if, count_below, some_below}
use Rattle.tree.specs.ZonesNeeded.{page_limit, zones_needed}

-- Of the blocks that name pages, number 0 is the single's, the next n are the double's, the next n * n the triple's:
-- one of the n pages of block k is held.
abbrev pub last_needed : ℕ → (ℕ → Bool) → ℕ → Bool
last_needed n held k = some_below (λ j. held (7 + (k * n + j))) n

-- Of the blocks that name such blocks, number 0 is the double's and the next n are the triple's.
abbrev pub second_needed : ℕ → (ℕ → Bool) → ℕ → Bool
second_needed n held m = some_below (λ j. last_needed n held (1 + (m * n + j))) n

-- the triple's
abbrev pub third_needed : ℕ → (ℕ → Bool) → Bool
third_needed n held = some_below (λ j. second_needed n held (1 + j)) n

-- the pages and the blocks
abbrev pub zones_needed_by_place : ℕ → (ℕ → Bool) → ℕ
zones_needed_by_place n held =
    count_below held (page_limit n)
    + count_below (last_needed n held) (1 + n + n * n)
    + count_below (second_needed n held) (1 + n)
    + one_if (third_needed n held)

-- the count by places is the count by ranges
abbrev pub ZonesNeededIsByPlace : Type 0
ZonesNeededIsByPlace = (n : ℕ) (held : ℕ → Bool) → zones_needed n held ≡ zones_needed_by_place n held
