use Rattle.std.proofs.Common.{rules}
use Rattle.board.proofs.Steps.{learns}
use Rattle.board.proofs.board.Board.learn.Goals as goal

pub load-requires : goal.load-requires
load-requires c = (search rules, search rules, learns _ _ _)
