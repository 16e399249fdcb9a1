use Rattle.std.proofs.Common.{rules, ap, ◌∙◌}
use Rattle.board.specs.View.{SeatState, is_used}
use Rattle.board.proofs.Joins.{gives}
use Rattle.board.proofs.board.Board.give.Goals as goal

pub split_seat-requires : goal.split_seat-requires
split_seat-requires g c =
    let n = g.C.NewNumber.number in (
      search rules,
      search rules,
      gives _ n _ (ap (λ (s : SeatState). s.view.keeps) c.keeper.view_is ∙ c.requires.keeper.1)
          (ap (λ (s : SeatState). is_used n s.view.used) c.keeper.view_is ∙ c.requires.free),
    )
