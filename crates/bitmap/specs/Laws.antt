-- Laws of free numbers.
use Rattle.std.specs.Prelude.{◌≡◌, ℕ, ◌<◌, ◌+◌, Bool, Option, IsSome}
use Rattle.lemmas.specs.Sums.{count_below}
use Rattle.bitmap.specs.Numbers.{IsLowestFree, count_free_in}

-- where some number is free, the lowest one is found
abbrev pub FreeIsFound : Type 0
FreeIsFound = (set : ℕ → Bool) (x : Option ℕ) (last : ℕ) → IsLowestFree x set 1 (last + 1) → 0 < count_free_in set 1 (last + 1) → IsSome x

-- each number from 1 to the last is free, or it is in the set
abbrev pub FreeAndTaken : Type 0
FreeAndTaken = (set : ℕ → Bool) (last : ℕ) → count_free_in set 1 (last + 1) + count_below (λ k. set (k + 1)) last ≡ last
