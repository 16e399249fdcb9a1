use Rattle.std.proofs.Common.{refl}
use Rattle.fuse_server.proofs.Steps.{no_step}
use Rattle.fuse_server.proofs.Asking.{stays}
use Rattle.fuse_server.proofs.mount.Mount.keep_names.Goals as goal

pub returns-in_err-check_directory-clause-asked : goal.returns-in_err-check_directory-clause-asked
returns-in_err-check_directory-clause-asked g c = stays _ _ _ _ _

pub returns-then-not-is_fresh-clause-asked : goal.returns-then-not-is_fresh-clause-asked
returns-then-not-is_fresh-clause-asked g c = stays _ _ _ _ _

pub returns-in_err-names-clause-asked : goal.returns-in_err-names-clause-asked
returns-in_err-names-clause-asked g c = c.names_of.ensures.asked

pub returns-clause-asked : goal.returns-clause-asked
returns-clause-asked g c = c.names_of.ensures.asked

pub returns-in_err-check_directory-clause-steps : goal.returns-in_err-check_directory-clause-steps
returns-in_err-check_directory-clause-steps g c = no_step refl

pub returns-then-not-is_fresh-clause-steps : goal.returns-then-not-is_fresh-clause-steps
returns-then-not-is_fresh-clause-steps g c = no_step refl

pub returns-in_err-names-clause-steps : goal.returns-in_err-names-clause-steps
returns-in_err-names-clause-steps g c = c.names_of.ensures.steps

pub returns-clause-steps : goal.returns-clause-steps
returns-clause-steps g c = c.names_of.ensures.steps
