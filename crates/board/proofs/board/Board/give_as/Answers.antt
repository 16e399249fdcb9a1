use Rattle.std.proofs.Common.{ap, sym, ◌∙◌}
use Rattle.board.specs.View.{new_caller}
use Rattle.board.proofs.Joins.{new_session}
use Rattle.board.proofs.board.Board.give_as.Goals as goal

pub returns-clause-session : goal.returns-clause-session
returns-clause-session g c =
    let old = c.args.keeper.now.view in
    new_session c.args.number old c.give.result.view (c.give.ensures.caller.1 ∙ ap (λ n. new_caller n old) (sym c.requires.is))
