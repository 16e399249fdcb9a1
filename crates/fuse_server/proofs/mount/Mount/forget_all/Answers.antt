use Rattle.fuse_server.proofs.Steps.{steps_on, step_forgotten}
use Rattle.fuse_server.proofs.mount.Mount.forget_all.Goals as goal

pub nodes-preserved : goal.nodes-preserved
nodes-preserved c = steps_on c.nodes.invariant (step_forgotten _ _ c.forget.ensures)
