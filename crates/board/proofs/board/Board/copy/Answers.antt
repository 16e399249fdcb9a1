use Rattle.std.proofs.Common.{rules}
use Rattle.board.proofs.Joins.{copies}
use Rattle.board.proofs.board.Board.copy.Goals as goal

pub split_seat-requires : goal.split_seat-requires
split_seat-requires c = (search rules, search rules, copies _ _)
