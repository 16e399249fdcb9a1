use Rattle.fuse_server.proofs.Steps.{step_closed}
use Rattle.fuse_server.proofs.mount.Mount.let_go.Goals as goal

pub returns-in-Some-clause-steps : goal.returns-in-Some-clause-steps
returns-in-Some-clause-steps g c = step_closed _ c.closed.ensures.known

pub returns-in_default-clause-steps : goal.returns-in_default-clause-steps
returns-in_default-clause-steps g c = step_closed _ c.closed.ensures.known
