use Rattle.std.proofs.Common.{refl}
use Rattle.fuse_server.proofs.Steps.{no_step}
use Rattle.fuse_server.proofs.Asking.{goes_on, stays}
use Rattle.fuse_server.proofs.mount.Mount.names_of.Goals as goal

pub returns-in_err-entries-clause-asked : goal.returns-in_err-entries-clause-asked
returns-in_err-entries-clause-asked g c = goes_on c.look.ensures.asked c.names_at.ensures.asked

pub returns-clause-asked : goal.returns-clause-asked
returns-clause-asked g c = goes_on c.look.ensures.asked c.names_at.ensures.asked

pub returns-in_err-path-clause-asked : goal.returns-in_err-path-clause-asked
returns-in_err-path-clause-asked g c = stays _ _ _ _ _

pub returns-in_err-own-clause-asked : goal.returns-in_err-own-clause-asked
returns-in_err-own-clause-asked g c = stays _ _ _ _ _

pub returns-in_err-path-clause-steps : goal.returns-in_err-path-clause-steps
returns-in_err-path-clause-steps g c = no_step refl

pub returns-in_err-own-clause-steps : goal.returns-in_err-own-clause-steps
returns-in_err-own-clause-steps g c = no_step refl

pub returns-in_err-entries-clause-steps : goal.returns-in_err-entries-clause-steps
returns-in_err-entries-clause-steps g c = c.names_at.ensures.steps

pub returns-clause-steps : goal.returns-clause-steps
returns-clause-steps g c = c.names_at.ensures.steps
