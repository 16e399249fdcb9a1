use Rattle.std.proofs.Common.{rules}
use Rattle.board.proofs.Editions.{compares}
use Rattle.board.proofs.board.Board.compare.Goals as goal

pub load-requires : goal.load-requires
load-requires c = (search rules, search rules, compares _ _ _)
