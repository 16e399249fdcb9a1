use Rattle.fuse_server.proofs.Asking.{goes_on}
use Rattle.fuse_server.proofs.Steps.{steps_on, step_opened}
use Rattle.std.proofs.Common.{None}
use Rattle.fuse_server.proofs.mount.Mount.open_file.Goals as goal

pub returns-in-Err-clause-asked : goal.returns-in-Err-clause-asked
returns-in-Err-clause-asked g c = goes_on c.descriptor.ensures.asked c.let_go.ensures.asked

pub returns-in-Ok-clause-steps : goal.returns-in-Ok-clause-steps
returns-in-Ok-clause-steps g c = steps_on c.descriptor.ensures.steps (step_opened _ None c.opened.ensures)

pub returns-in-Err-clause-steps : goal.returns-in-Err-clause-steps
returns-in-Err-clause-steps g c =
    steps_on (steps_on c.descriptor.ensures.steps (step_opened _ None c.opened.ensures)) c.let_go.ensures.steps
