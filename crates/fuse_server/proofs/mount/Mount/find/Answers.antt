use Rattle.std.proofs.Common.{refl}
use Rattle.fuse_server.proofs.Steps.{no_step}
use Rattle.fuse_server.proofs.mount.Mount.find.Goals as goal

pub returns-in_err-attributes-clause-asked : goal.returns-in_err-attributes-clause-asked
returns-in_err-attributes-clause-asked g c = c.look_for.ensures.asked

pub returns-in_err-tell_node-in-Some-clause-asked : goal.returns-in_err-tell_node-in-Some-clause-asked
returns-in_err-tell_node-in-Some-clause-asked g c = c.look_for.ensures.asked

pub returns-in_ok-tell_node-in-Some-clause-asked : goal.returns-in_ok-tell_node-in-Some-clause-asked
returns-in_ok-tell_node-in-Some-clause-asked g c = c.look_for.ensures.asked

pub returns-in-None-clause-asked : goal.returns-in-None-clause-asked
returns-in-None-clause-asked g c = c.look_for.ensures.asked

pub returns-in_err-attributes-clause-steps : goal.returns-in_err-attributes-clause-steps
returns-in_err-attributes-clause-steps g c = no_step refl

pub returns-in_err-tell_node-in-Some-clause-steps : goal.returns-in_err-tell_node-in-Some-clause-steps
returns-in_err-tell_node-in-Some-clause-steps g c = c.tell_node.ensures.steps

pub returns-in_ok-tell_node-in-Some-clause-steps : goal.returns-in_ok-tell_node-in-Some-clause-steps
returns-in_ok-tell_node-in-Some-clause-steps g c = c.tell_node.ensures.steps

pub returns-in-None-clause-steps : goal.returns-in-None-clause-steps
returns-in-None-clause-steps g c = no_step refl
