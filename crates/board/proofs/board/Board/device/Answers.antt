use Rattle.std.proofs.Common.{rules}
use Rattle.board.proofs.Steps.{asks}
use Rattle.board.proofs.board.Board.device.Goals as goal

pub load-requires : goal.load-requires
load-requires c = (search rules, search rules, asks _ _ _)
