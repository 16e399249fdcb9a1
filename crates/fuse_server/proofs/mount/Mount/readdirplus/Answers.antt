use Rattle.fuse_server.proofs.Steps.{steps_on}
use Rattle.fuse_server.proofs.Asking.{goes_on}
use Rattle.fuse_server.proofs.mount.Mount.readdirplus.Goals as goal

pub returns-clause-asked : goal.returns-clause-asked
returns-clause-asked g c = goes_on c.keep_names.ensures.asked c.kept_plus.ensures.asked

pub returns-in_err-keep_names-clause-asked : goal.returns-in_err-keep_names-clause-asked
returns-in_err-keep_names-clause-asked g c = c.keep_names.ensures.asked

pub returns-in_err-keep_names-clause-steps : goal.returns-in_err-keep_names-clause-steps
returns-in_err-keep_names-clause-steps g c = c.keep_names.ensures.steps

pub returns-clause-steps : goal.returns-clause-steps
returns-clause-steps g c = steps_on c.keep_names.ensures.steps c.kept_plus.ensures.steps
