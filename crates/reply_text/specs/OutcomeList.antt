-- Outcomes, and room for more.
use Rattle.std.specs.Prelude.{ℕ, List}
use Rattle.tree.specs.declared.Outcome.{Outcome}

-- what came of calls, in their order, and of how many more there is room for it
pub record OutcomeList : Type 0 where
  pub items : List Outcome
  pub room : ℕ
