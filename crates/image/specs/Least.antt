-- The least number that passes a test.
use Rattle.std.specs.Prelude.{ℕ, ◌<◌, Bool, true, false, Option, None, Some, IfSome, unwrap_or, if◌then◌else◌}
use Rattle.lemmas.specs.Sums.{some_below, least_below}

-- the least number below n that passes, where one does
abbrev pub least_of : (ℕ → Bool) → ℕ → Option ℕ
least_of p n = if some_below p n then Some (least_below p n) else None

-- The number is the first below n for which the test may answer true, and before it the test may answer false; where it is none,
-- the test may answer false for all of them.
pub record IsFirst (answers : ℕ → Bool → Type 0) (n : ℕ) (o : Option ℕ) : Type 0 where
  pub found : IfSome o (λ m. (m < n) × answers m true)
  pub before : (k : ℕ) → k < unwrap_or o n → answers k false
