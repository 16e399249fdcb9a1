use Rattle.std.proofs.Common.{sym, ap, ◌∙◌}
use Rattle.board.specs.View.{View, is_used}
use Rattle.board.proofs.KeeperLaws.{is_free}
use Rattle.board.proofs.counting.keeper.Keeper.new.Goals as goal

pub invariant_of-result-clause-numbers : goal.invariant_of-result-clause-numbers
invariant_of-result-clause-numbers g c = λ n lt. is_free 64 n ∙ ap (λ (v : View). is_used n v.used) (sym c.requires.seat.1)
