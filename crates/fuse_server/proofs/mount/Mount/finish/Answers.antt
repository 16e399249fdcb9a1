use Rattle.std.proofs.Common.{refl}
use Rattle.fuse_server.proofs.Steps.{no_step}
use Rattle.fuse_server.proofs.Telling.{opened_shown}
use Rattle.fuse_server.proofs.mount.Mount.finish.Goals as goal

pub returns-clause-shown : goal.returns-clause-shown
returns-clause-shown g c = opened_shown _ c.args.path c.in_ok-attributes.attributes c.tell_opened.result c.in_ok-attributes.ensures.seen
    c.tell_opened.ensures.attributes

pub returns-in_err-attributes-clause-asked : goal.returns-in_err-attributes-clause-asked
returns-in_err-attributes-clause-asked g c = c.look_at_made.ensures.asked

pub returns-clause-asked : goal.returns-clause-asked
returns-clause-asked g c = c.look_at_made.ensures.asked

pub returns-in_err-attributes-clause-steps : goal.returns-in_err-attributes-clause-steps
returns-in_err-attributes-clause-steps g c = no_step refl

pub returns-clause-steps : goal.returns-clause-steps
returns-clause-steps g c = c.tell_opened.ensures.steps
