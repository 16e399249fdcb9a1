use Rattle.std.proofs.Common.{Bool, subst}
use Rattle.std.specs.Bool.{OnTrue}
use Rattle.message_stream.specs.Exchanges.{by_both}
use Rattle.message_stream.specs.Messages.{IsMessage}
use Rattle.message_stream.proofs.Streams.{if_err, is_answered, stops_reading}
use Rattle.message_stream.proofs.answering.Buffers.next.Goals as goal

pub returns-clause-answered : goal.returns-clause-answered
returns-clause-answered g c =
    let R = by_both (g.W.Answers.answers _ g.S.Sessions.called g.S.Sessions.entered g.S.Sessions.left) in
    let few = g.W.Answers.fewest in
    let message = c.read.new.self.message in
    is_answered few R _ _ _ _ message (c.args.sessions.now, c.args.answerer.now) (c.respond.new.sessions, c.respond.new.answerer)
    (subst (λ (b : Bool). OnTrue b (IsMessage few message)) c.if-not-branch.false c.in_ok-read.ensures.message) c.in_ok-read.ensures.taken
    c.in_ok-respond.ensures.answered

pub returns-in_err-read-clause-stopped : goal.returns-in_err-read-clause-stopped
returns-in_err-read-clause-stopped g c =
    let R = by_both (g.W.Answers.answers _ g.S.Sessions.called g.S.Sessions.entered g.S.Sessions.left) in
    if_err c.from_residual.result _ _ c.from_residual.ensures.1
    (stops_reading g.W.Answers.fewest R _ _ _ _ c.read.new.self.message c.args.sessions.now c.args.answerer.now
    c.in_err-read.ensures.taken c.in_err-read.ensures.refused)
