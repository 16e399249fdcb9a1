use Rattle.fuse_server.proofs.Steps.{no_step}
use Rattle.std.proofs.Common.{refl}
use Rattle.fuse_server.proofs.Asking.{goes_on}
use Rattle.fuse_server.proofs.Telling.{told_by}
use Rattle.fuse_server.proofs.mount.Mount.tell_made.Goals as goal

pub returns-clause-asked : goal.returns-clause-asked
returns-clause-asked g c = goes_on c.give.ensures.asked c.tell.ensures.asked

pub returns-clause-shown : goal.returns-clause-shown
returns-clause-shown g c =
    told_by c.tell.new.sessions c.args.path _ refl c.in_ok-give.ensures.given c.tell.result c.tell.ensures.shown

pub returns-in_err-give-clause-asked : goal.returns-in_err-give-clause-asked
returns-in_err-give-clause-asked g c = c.give.ensures.asked

pub returns-in_err-give-clause-steps : goal.returns-in_err-give-clause-steps
returns-in_err-give-clause-steps g c = no_step refl

pub returns-clause-steps : goal.returns-clause-steps
returns-clause-steps g c = c.tell.ensures.steps
