use Rattle.message_stream.specs.Answered.{AreAnswered}
use Rattle.message_stream.specs.Exchanges.{by_both}
use Rattle.message_stream.proofs.answering.answer_all.Given as goal

-- the messages so far were answered
abbrev pub invariant-loop : goal.invariant-loop
invariant-loop g l = AreAnswered g.W.Answers.fewest (by_both (g.W.Answers.answers _ g.S.Sessions.called g.S.Sessions.entered g.S.Sessions.left))
    (g.I.Read.remaining l.fn.input) (g.I.Read.remaining l.input) (g.O.Write.contents l.fn.output) (g.O.Write.contents l.output)
    (l.fn.sessions, l.fn.answerer) (l.sessions, l.answerer)
