use Rattle.std.proofs.Common.{refl}
use Rattle.fuse_server.proofs.Steps.{no_step}
use Rattle.fuse_server.proofs.Asking.{on_err}
use Rattle.fuse_nodes.specs.Known.{known_of}
use Rattle.fuse_server.proofs.Telling.{told_same}
use Rattle.fuse_server.proofs.mount.Mount.getattr.Goals as goal

pub returns-clause-behind : goal.returns-clause-behind
returns-clause-behind g c = told_same c.answer_of.result c.answer_of.ensures (c.in_ok-attributes.ensures.behind (known_of c.args.self.now.nodes))

pub returns-in_err-attributes-clause-asked : goal.returns-in_err-attributes-clause-asked
returns-in_err-attributes-clause-asked g c = on_err _ c.attributes.ensures.asked

pub returns-in_err-attributes-clause-steps : goal.returns-in_err-attributes-clause-steps
returns-in_err-attributes-clause-steps g c = no_step refl

pub returns-clause-steps : goal.returns-clause-steps
returns-clause-steps g c = no_step refl
