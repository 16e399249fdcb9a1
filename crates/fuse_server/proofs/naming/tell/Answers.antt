use Rattle.fuse_server.proofs.Telling.{told_shown}
use Rattle.std.proofs.Common.{refl}
use Rattle.fuse_server.proofs.Steps.{no_step}
use Rattle.fuse_server.proofs.naming.tell.Goals as goal

pub returns-clause-shown : goal.returns-clause-shown
returns-clause-shown g c =
    told_shown c.in_ok-attributes.attributes c.tell_node.result c.in_ok-attributes.ensures.seen c.tell_node.ensures.attributes

pub returns-in_err-attributes-clause-steps : goal.returns-in_err-attributes-clause-steps
returns-in_err-attributes-clause-steps g c = no_step refl
