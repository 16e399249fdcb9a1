use Rattle.std.proofs.Common.{rules, ap, ◌∙◌}
use Rattle.records.specs.Marks.{is_counted}
use Rattle.board.specs.View.{SeatState}
use Rattle.board.proofs.Moves.{notes_uncounted}
use Rattle.board.proofs.board.Board.issue_as.Goals as goal

pub load-requires : goal.load-requires
load-requires g c = (
  search rules,
  search rules,
  notes_uncounted _ _ _ g.C.NewMark.mark (ap (λ (s : SeatState). s.view.keeps) c.keeper.view_is ∙ c.requires.keeper.1)
      (ap is_counted c.requires.is),
)
