use Rattle.std.proofs.Common.{rules}
use Rattle.board.proofs.Steps.{starts_at}
use Rattle.board.proofs.board.Board.started.Goals as goal

pub fetch_max-requires : goal.fetch_max-requires
fetch_max-requires c = (search rules, search rules, starts_at _ _ c.args.generation _ (search rules))
