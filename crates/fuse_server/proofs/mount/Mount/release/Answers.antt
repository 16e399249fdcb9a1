use Rattle.std.proofs.Common.{refl}
use Rattle.fuse_server.proofs.Steps.{no_step}
use Rattle.fuse_server.proofs.Asking.{stays}
use Rattle.fuse_server.proofs.mount.Mount.release.Goals as goal

pub returns-in_err-node-clause-asked : goal.returns-in_err-node-clause-asked
returns-in_err-node-clause-asked g c = stays _ _ _ _ _

pub returns-in_default-clause-asked : goal.returns-in_default-clause-asked
returns-in_default-clause-asked g c = stays _ _ _ _ _

pub returns-clause-asked : goal.returns-clause-asked
returns-clause-asked g c = c.let_go.ensures.asked

pub returns-in_err-node-clause-steps : goal.returns-in_err-node-clause-steps
returns-in_err-node-clause-steps g c = no_step refl

pub returns-in_default-clause-steps : goal.returns-in_default-clause-steps
returns-in_default-clause-steps g c = no_step refl

pub returns-clause-steps : goal.returns-clause-steps
returns-clause-steps g c = c.let_go.ensures.steps
