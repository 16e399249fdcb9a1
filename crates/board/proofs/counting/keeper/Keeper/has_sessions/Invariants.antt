use Rattle.std.specs.Prelude.{◌≡◌, ◌<◌, ℕ, false}
use Rattle.board.specs.View.{is_used, without}
use Rattle.board.specs.Keeper.{numbers_of}
use Rattle.board.proofs.counting.keeper.Keeper.has_sessions.Given as goal

abbrev pub invariant-loop-number : goal.invariant-loop-number
invariant-loop-number g l = (n : ℕ) → n < l.number → is_used n (without l.but (numbers_of l.self)) ≡ false
