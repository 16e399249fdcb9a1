use Rattle.serve.proofs.StoppingLaws.{none_left, one_left}
use Rattle.serve.proofs.service.Service.has_sessions.Goals as goal

pub returns-clause-some : goal.returns-clause-some
returns-clause-some g c = one_left g.L.Recorder.numbers c.args.but _ c.has_sessions.result c.has_sessions.ensures

pub returns-clause-none : goal.returns-clause-none
returns-clause-none g c = none_left g.L.Recorder.numbers c.args.but _ c.has_sessions.result c.has_sessions.ensures
