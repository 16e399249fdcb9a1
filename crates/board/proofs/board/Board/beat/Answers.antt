use Rattle.std.proofs.Common.{rules}
use Rattle.board.proofs.Steps.{beats}
use Rattle.board.proofs.board.Board.beat.Goals as goal

pub fetch_max-requires : goal.fetch_max-requires
fetch_max-requires c = (search rules, search rules, beats _ _ _ _)
