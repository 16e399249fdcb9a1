use Rattle.std.proofs.Common.{rules}
use Rattle.board.proofs.Steps.{finds}
use Rattle.board.proofs.board.Board.current.Goals as goal

pub load-requires : goal.load-requires
load-requires c = (search rules, search rules, finds _ _ _)
