use Rattle.std.proofs.Common.{rules}
use Rattle.board.proofs.Steps.{feels}
use Rattle.board.proofs.board.Board.pulse.Goals as goal

pub load-word-requires : goal.load-word-requires
load-word-requires c = (search rules, search rules, feels _ _ _)
