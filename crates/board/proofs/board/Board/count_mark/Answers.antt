use Rattle.std.proofs.Common.{ap, subst, sym, ◌∙◌, ◌≡◌, Some}
use Rattle.records.specs.Marks.{Mark, IsBeginning}
use Rattle.board.specs.View.{View, SeatState, hosting, called, guest_of}
use Rattle.board.specs.Steps.{IsCallOf, OwnsCalls}
use Rattle.board.proofs.Joins.{caller_learns}
use Rattle.board.proofs.board.Board.count_mark.Goals as goal

pub take-requires-clause-call : goal.take-requires-clause-call
take-requires-clause-call g c =
    let guest : c.replace-guest.result ≡ c.args.caller.now = c.replace-guest.ensures.value ∙ c.copy-empty.ensures.same in
    let number : c.host.new.keeper.view.number ≡ Some c.args.who.session =
    ap (λ (v : View). v.number) c.host.ensures.1 ∙ ap (λ (s : SeatState). s.view.number) guest ∙ c.requires.caller.1 in
    subst (λ (m : Mark). IsCallOf c.host.new.keeper.view.number m) (sym c.requires.is.1) number

pub returns-clause-session : goal.returns-clause-session
returns-clause-session g c =
    let m = g.C.NewMark.mark in
    let v = c.args.keeper.now.view in
    let w = c.args.caller.now.view in
    let guest : c.replace-guest.result ≡ c.args.caller.now = c.replace-guest.ensures.value ∙ c.copy-empty.ensures.same in
    let hosted : c.host.new.keeper.view ≡ hosting v w = c.host.ensures.1 ∙ ap (λ (s : SeatState). hosting v s.view) guest in
    let taken : c.take.new.keeper.view ≡ called m (hosting v w) = c.take.ensures.seen ∙ ap (called m) hosted in
    caller_learns m v w c.part.result.view (c.part.ensures.caller.1 ∙ ap guest_of taken)
    (subst (λ (x : View). IsBeginning x.told x.seen) hosted c.take.ensures.told)
    (subst (λ (x : View). OwnsCalls x) taken c.take.ensures.own)
