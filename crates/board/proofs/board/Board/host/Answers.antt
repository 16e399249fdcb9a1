use Rattle.std.proofs.Common.{rules, ap, ◌∙◌}
use Rattle.board.specs.View.{SeatState}
use Rattle.board.proofs.Joins.{hosts}
use Rattle.board.proofs.board.Board.host.Goals as goal

pub join_seat-requires : goal.join_seat-requires
join_seat-requires c = (
  search rules,
  search rules,
  search rules,
  search rules,
  hosts _ _ _ _ (ap (λ (s : SeatState). s.view.keeps) c.keeper.view_is ∙ c.requires.keeper.1)
      (ap (λ (s : SeatState). s.view.number) c.keeper.view_is ∙ c.requires.keeper.2),
)
