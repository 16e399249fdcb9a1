use Rattle.std.proofs.Common.{ℕ, List, subst, sym}
use Rattle.message_stream.specs.Exchanges.{by_both}
use Rattle.message_stream.proofs.Streams.{responds, responds_not, without_memory}
use Rattle.message_stream.proofs.answering.Buffers.respond.Goals as goal

pub returns-in-Ok-clause-answered : goal.returns-in-Ok-clause-answered
returns-in-Ok-clause-answered g c =
    let R = by_both (g.W.Answers.answers _ g.S.Sessions.called g.S.Sessions.entered g.S.Sessions.left) in
    responds R c.write.result c.args.self.now.message c.as_slice.result.now _ _ (c.args.sessions.now, c.args.answerer.now)
    (c.answer.new.sessions, c.answer.new.self) c.write.ensures.ok
    (subst (λ (o : List ℕ). R c.args.self.now.message o (c.args.sessions.now, c.args.answerer.now)
    (c.answer.new.sessions, c.answer.new.self)) (sym c.as_slice.ensures.value)
    (subst (λ (m : List ℕ). R m c.answer.new.out.items (c.args.sessions.now, c.args.answerer.now)
    (c.answer.new.sessions, c.answer.new.self)) c.as_slice-bytes.ensures.value c.in-Ok.ensures.ok))

pub returns-in-Ok-clause-refused : goal.returns-in-Ok-clause-refused
returns-in-Ok-clause-refused g c =
    let R = by_both (g.W.Answers.answers _ g.S.Sessions.called g.S.Sessions.entered g.S.Sessions.left) in
    responds_not R c.write.result c.args.self.now.message c.as_slice.result.now _ _ (c.args.sessions.now, c.args.answerer.now)
    c.answer.new.sessions c.answer.new.self c.write.ensures.err
    (subst (λ (o : List ℕ). R c.args.self.now.message o (c.args.sessions.now, c.args.answerer.now)
    (c.answer.new.sessions, c.answer.new.self)) (sym c.as_slice.ensures.value)
    (subst (λ (m : List ℕ). R m c.answer.new.out.items (c.args.sessions.now, c.args.answerer.now)
    (c.answer.new.sessions, c.answer.new.self)) c.as_slice-bytes.ensures.value c.in-Ok.ensures.ok))

pub returns-in-Err-clause-refused : goal.returns-in-Err-clause-refused
returns-in-Err-clause-refused g c =
    let R = by_both (g.W.Answers.answers _ g.S.Sessions.called g.S.Sessions.entered g.S.Sessions.left) in
    without_memory R c.args.self.now.message _ c.args.sessions.now c.answer.new.sessions c.args.answerer.now c.in-Err.ensures.none.0
