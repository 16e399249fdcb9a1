use Rattle.serve.proofs.StoppingLaws.{free_if_none}
use Rattle.serve.proofs.service.Service.alone.Goals as goal

pub returns-then-not-has_sessions : goal.returns-then-not-has_sessions
returns-then-not-has_sessions g c = free_if_none _ c.has_sessions.result c.has_sessions.ensures c.if-not-has_sessions.true
