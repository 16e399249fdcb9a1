use Rattle.std.proofs.Common.{rules, ap, ◌∙◌}
use Rattle.records.specs.Marks.{gave_up}
use Rattle.board.specs.View.{SeatState}
use Rattle.board.proofs.Steps.{gives_up}
use Rattle.board.proofs.board.Board.give_up.Goals as goal

pub fetch_or-requires : goal.fetch_or-requires
fetch_or-requires c = (
  search rules,
  search rules,
  gives_up _ _ _ (ap (λ (s : SeatState). s.view.keeps) c.keeper.view_is ∙ c.requires.keeper.1)
      (ap (λ (s : SeatState). gave_up s.view.seen) c.keeper.view_is ∙ c.requires.ended),
)
