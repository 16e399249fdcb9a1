use Rattle.board.proofs.Written.{none_is_written}
use Rattle.board.proofs.counting.written.none_written.Goals as goal

pub returns : goal.returns
returns c = none_is_written c.in_ok-units.units c.in_ok-units.ensures
