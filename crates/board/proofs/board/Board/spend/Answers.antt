use Rattle.std.proofs.Common.{rules, ap, ◌∙◌}
use Rattle.board.specs.View.{SeatState}
use Rattle.board.proofs.Joins.{spends}
use Rattle.board.proofs.board.Board.spend.Goals as goal

pub join_seat-requires : goal.join_seat-requires
join_seat-requires c =
    (search rules, search rules, search rules, search rules, spends _ _ _ _ (ap (λ (s : SeatState). s.view.keeps) c.keeper.view_is ∙ c.requires.keeper.1))
