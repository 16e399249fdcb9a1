use Rattle.std.proofs.Common.{rules, ap, ◌∙◌}
use Rattle.board.specs.View.{SeatState}
use Rattle.board.proofs.Joins.{tells}
use Rattle.board.proofs.board.Board.tell.Goals as goal

pub join_seat-requires : goal.join_seat-requires
join_seat-requires c =
    (search rules, search rules, search rules, search rules, tells _ _ _ _ (ap (λ (s : SeatState). s.view.number) c.other.view_is ∙ c.requires.other.1))
