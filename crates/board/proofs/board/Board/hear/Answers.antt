use Rattle.std.proofs.Common.{rules, ap, ◌∙◌}
use Rattle.board.specs.View.{SeatState}
use Rattle.board.proofs.Joins.{hears}
use Rattle.board.proofs.board.Board.hear.Goals as goal

pub join_seat-requires : goal.join_seat-requires
join_seat-requires c =
    (search rules, search rules, search rules, search rules, hears _ _ _ _ (ap (λ (s : SeatState). s.view.number) c.other.view_is ∙ c.requires.other.1))
