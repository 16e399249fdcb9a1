use Rattle.std.proofs.Common.{refl}
use Rattle.fuse_server.proofs.Asking.{goes_on}
use Rattle.fuse_server.proofs.Steps.{no_step}
use Rattle.fuse_server.proofs.mount.Mount.leave_room.Goals as goal

pub returns-in_err-descriptor-clause-asked : goal.returns-in_err-descriptor-clause-asked
returns-in_err-descriptor-clause-asked g c = c.open_somewhere.ensures.asked

pub returns-in_err-descriptor-clause-steps : goal.returns-in_err-descriptor-clause-steps
returns-in_err-descriptor-clause-steps g c = no_step refl

pub returns-clause-asked : goal.returns-clause-asked
returns-clause-asked g c = goes_on c.open_somewhere.ensures.asked c.close.ensures.asked

pub returns-clause-steps : goal.returns-clause-steps
returns-clause-steps g c = no_step refl
