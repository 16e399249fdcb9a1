use Rattle.fuse_server.proofs.Steps.{steps_on, step_got}
use Rattle.fuse_server.proofs.mount.Mount.open_node.Goals as goal

pub returns-clause-steps : goal.returns-clause-steps
returns-clause-steps g c = steps_on c.open_path.ensures.steps (step_got _ _ c.set_descriptor.ensures)
