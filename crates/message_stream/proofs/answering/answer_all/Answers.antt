use Rattle.std.proofs.Common.{◌≡◌, Bool, subst}
use Rattle.std.specs.Bool.{OnFalse}
use Rattle.std.specs.Io.KnownBytes.{IsAtEnd}
use Rattle.message_stream.specs.Exchanges.{by_both}
use Rattle.message_stream.specs.declared.answering.StreamRefusal.TheVariants.{TooMany}
use Rattle.message_stream.proofs.Streams.{ended_silent, if_err, stopped, stops_here}
use Rattle.message_stream.proofs.answering.answer_all.Goals as goal

pub returns-then-not-branch-clause-whole : goal.returns-then-not-branch-clause-whole
returns-then-not-branch-clause-whole g c =
    let R = by_both (g.W.Answers.answers _ g.S.Sessions.called g.S.Sessions.entered g.S.Sessions.left) in
    let end = subst (λ (b : Bool). OnFalse b (IsAtEnd (g.I.Read.remaining c.loop.input))) c.if-not-branch.true
    c.in_ok-next.ensures.ended in
    let silent = subst (λ (b : Bool). OnFalse b ((c.next.new.output ≡ c.loop.output) × (c.next.new.sessions ≡ c.loop.sessions)
    × (c.next.new.answerer ≡ c.loop.answerer))) c.if-not-branch.true c.in_ok-next.ensures.silent in
    ended_silent g.W.Answers.fewest R g.O.Write.contents _ (g.I.Read.remaining c.loop.input) _ c.loop.output c.next.new.output
    (c.args.sessions.now, c.args.answerer.now) c.loop.sessions c.next.new.sessions c.loop.answerer c.loop.invariant end silent.0 silent.1

pub returns-in_err-next-clause-stopped : goal.returns-in_err-next-clause-stopped
returns-in_err-next-clause-stopped g c =
    let R = by_both (g.W.Answers.answers _ g.S.Sessions.called g.S.Sessions.entered g.S.Sessions.left) in
    if_err c.from_residual.result _ _ c.from_residual.ensures.1 (stopped g.W.Answers.fewest R _ _ _ _ _ _ _
    (c.args.sessions.now, c.args.answerer.now) (c.loop.sessions, c.loop.answerer) c.next.new.sessions c.in_err-next.ensures.stopped.0 c.loop.invariant
    c.in_err-next.ensures.stopped.1)

pub returns-clause-stopped : goal.returns-clause-stopped
returns-clause-stopped g c =
    let R = by_both (g.W.Answers.answers _ g.S.Sessions.called g.S.Sessions.entered g.S.Sessions.left) in
    let few = g.W.Answers.fewest in
    let input = g.I.Read.remaining c.loop.input in
    let output = g.O.Write.contents c.loop.output in
    stopped few R TooMany _ input input _ output output (c.args.sessions.now, c.args.answerer.now) (c.loop.sessions, c.loop.answerer)
    c.loop.sessions c.loop.answerer c.loop.invariant (stops_here few R input output (c.loop.sessions, c.loop.answerer))
