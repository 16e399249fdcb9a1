use Rattle.fuse_server.proofs.Steps.{step_given}
use Rattle.fuse_server.proofs.mount.Mount.make_room.Goals as goal

pub returns-clause-steps : goal.returns-clause-steps
returns-clause-steps g c = step_given _ c.take_descriptor.ensures.known
