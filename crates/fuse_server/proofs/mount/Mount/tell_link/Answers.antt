use Rattle.std.proofs.Common.{refl}
use Rattle.fuse_server.proofs.Steps.{no_step}
use Rattle.fuse_server.proofs.Asking.{goes_on}
use Rattle.fuse_server.proofs.Telling.{link_told}
use Rattle.fuse_server.proofs.mount.Mount.tell_link.Goals as goal

pub returns-clause-asked : goal.returns-clause-asked
returns-clause-asked g c = goes_on c.give_link.ensures.asked c.tell.ensures.asked

pub returns-clause-shown : goal.returns-clause-shown
returns-clause-shown g c =
    link_told c.tell.new.sessions c.args.path c.args.owner c.in_ok-give_link.ensures.given c.tell.result c.tell.ensures.shown

pub returns-in_err-give_link-clause-asked : goal.returns-in_err-give_link-clause-asked
returns-in_err-give_link-clause-asked g c = c.give_link.ensures.asked

pub returns-in_err-give_link-clause-steps : goal.returns-in_err-give_link-clause-steps
returns-in_err-give_link-clause-steps g c = no_step refl

pub returns-clause-steps : goal.returns-clause-steps
returns-clause-steps g c = c.tell.ensures.steps
