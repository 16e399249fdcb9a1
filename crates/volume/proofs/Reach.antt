-- Reached by names, and climbing to the parents, over plain functions.
use Rattle.std.specs.Prelude.{ℕ, zero, suc, Bool, ◌&&◌, ◌||◌, ◌==◌}
use Rattle.lemmas.specs.Sums.{some_below}

-- in at most k steps from the root, through numbers below the bound
unfoldable pub reached : (ℕ → ℕ → Bool) → ℕ → ℕ → ℕ → Bool
reached edge limit zero n = n == 1
reached edge limit (suc k) n = reached edge limit k n || some_below (λ m. edge m n && reached edge limit k m) limit

-- the parent of the parent of .., k times
unfoldable pub climb : (ℕ → ℕ) → ℕ → ℕ → ℕ
climb parent zero n = n
climb parent (suc k) n = climb parent k (parent n)
