use Rattle.std.proofs.Common.{rules, ap, ◌∙◌}
use Rattle.board.specs.View.{SeatState}
use Rattle.board.proofs.Joins.{releases}
use Rattle.board.proofs.board.Board.part.Goals as goal

pub split_seat-requires : goal.split_seat-requires
split_seat-requires c = (search rules, search rules, releases _ _ (ap (λ (s : SeatState). s.view.keeps) c.keeper.view_is ∙ c.requires.1))
