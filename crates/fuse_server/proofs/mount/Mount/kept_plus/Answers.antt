use Rattle.std.proofs.Common.{refl}
use Rattle.fuse_server.proofs.Steps.{no_step}
use Rattle.fuse_server.proofs.Asking.{stays}
use Rattle.fuse_server.proofs.mount.Mount.kept_plus.Goals as goal

pub returns-in_err-names-clause-asked : goal.returns-in_err-names-clause-asked
returns-in_err-names-clause-asked g c = stays _ _ _ _ _

pub returns-in_err-bytes-clause-asked : goal.returns-in_err-bytes-clause-asked
returns-in_err-bytes-clause-asked g c = c.told_entries.ensures.asked

pub returns-clause-asked : goal.returns-clause-asked
returns-clause-asked g c = c.told_entries.ensures.asked

pub returns-in_err-names-clause-steps : goal.returns-in_err-names-clause-steps
returns-in_err-names-clause-steps g c = no_step refl

pub returns-in_err-bytes-clause-steps : goal.returns-in_err-bytes-clause-steps
returns-in_err-bytes-clause-steps g c = c.told_entries.ensures.steps

pub returns-clause-steps : goal.returns-clause-steps
returns-clause-steps g c = c.told_entries.ensures.steps
