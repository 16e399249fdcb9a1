use Rattle.std.proofs.Common.{rules, ap, sym, subst, ◌∙◌}
use Rattle.records.specs.Marks.{Mark}
use Rattle.board.specs.View.{SeatState}
use Rattle.board.specs.Steps.{IsEvent}
use Rattle.board.proofs.Moves.{notes}
use Rattle.board.proofs.Joins.{message_is_event}
use Rattle.board.proofs.board.Board.note_as.Goals as goal

pub fetch_add-requires : goal.fetch_add-requires
fetch_add-requires g c = (
  search rules,
  search rules,
  notes _ _ _ g.C.NewMark.mark (ap (λ (s : SeatState). s.view.keeps) c.keeper.view_is ∙ c.requires.keeper.1)
      (subst (λ (m : Mark). IsEvent m) (sym c.requires.is) (message_is_event c.args.message.now)),
)
