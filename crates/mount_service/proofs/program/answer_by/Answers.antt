use Rattle.mount_service.proofs.Speaking.{spoken_ok}
use Rattle.mount_service.proofs.program.answer_by.Goals as goal

pub returns-clause-spoken : goal.returns-clause-spoken
returns-clause-spoken g c =
    spoken_ok _ g.A.Archive.puts g.W.Answers.fewest g.W.Answers.answers c.args.streams.now.answerer g.N.ServiceParameters.geometry
    g.N.ServiceParameters.opening _ _ _ _ _ _ _ _ c.new-sessions.ensures c.answer_all-answered.ensures.whole c.end.ensures.more
    c.end.ensures.met
