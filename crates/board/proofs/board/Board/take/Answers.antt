use Rattle.std.proofs.Common.{rules, ap, sym, subst, ◌∙◌, ◌≡◌, true}
use Rattle.records.specs.Marks.{gave_up}
use Rattle.board.specs.View.{SeatState}
use Rattle.board.specs.Steps.{IsCallOf}
use Rattle.board.proofs.Moves.{calls}
use Rattle.board.proofs.board.Board.take.Goals as goal

pub fetch_add-requires : goal.fetch_add-requires
fetch_add-requires g c = (
  search rules,
  search rules,
  calls _ _ _ g.C.NewMark.mark (ap (λ (s : SeatState). s.view.keeps) c.keeper.view_is ∙ c.requires.keeper.1)
      (subst (λ (s : SeatState). IsCallOf s.view.number g.C.NewMark.mark) (sym c.keeper.view_is) c.requires.call)
      (subst (λ (s : SeatState). gave_up s.view.seen ≡ true → s.view.given_up ≡ true) (sym c.keeper.view_is) c.requires.told),
)
