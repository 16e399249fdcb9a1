use Rattle.std.proofs.Common.{rules}
use Rattle.board.proofs.Moves.{looks}
use Rattle.board.proofs.board.Board.tally.Goals as goal

pub load-requires : goal.load-requires
load-requires c = (search rules, search rules, looks _ _ _)
