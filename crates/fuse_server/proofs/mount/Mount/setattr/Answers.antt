use Rattle.fuse_server.proofs.Steps.{no_step}
use Rattle.std.proofs.Common.{sym, ◌∙◌, refl}
use Rattle.fuse_nodes.specs.Known.{known_of}
use Rattle.fuse_server.proofs.Asking.{goes_on, on_err}
use Rattle.fuse_server.proofs.Telling.{told_same, changed_behind}
use Rattle.fuse_server.proofs.mount.Mount.setattr.Goals as goal

pub returns-in_err-attributes-clause-asked : goal.returns-in_err-attributes-clause-asked
returns-in_err-attributes-clause-asked g c = on_err _ (goes_on c.attributes.ensures.asked c.set_node.ensures.asked)

pub returns-clause-behind : goal.returns-clause-behind
returns-clause-behind g c = told_same c.answer_of.result c.answer_of.ensures
    (changed_behind c.args.wanted.now c.in_ok-was.was' c.in_ok-changes.changes _ (sym c.changes.ensures ∙ c.in_ok-changes.was)
    (c.in_ok-was.ensures.behind (known_of c.args.self.now.nodes)) (c.in_ok-attributes.ensures.behind (known_of c.args.self.now.nodes)))

pub returns-in_err-was-clause-asked : goal.returns-in_err-was-clause-asked
returns-in_err-was-clause-asked g c = on_err _ c.attributes.ensures.asked

pub returns-in_err-check_link-clause-asked : goal.returns-in_err-check_link-clause-asked
returns-in_err-check_link-clause-asked g c = on_err _ c.attributes.ensures.asked

pub returns-in_err-changes-clause-asked : goal.returns-in_err-changes-clause-asked
returns-in_err-changes-clause-asked g c = on_err _ c.attributes.ensures.asked

pub returns-clause-steps : goal.returns-clause-steps
returns-clause-steps g c = no_step refl

pub returns-in_err-was-clause-steps : goal.returns-in_err-was-clause-steps
returns-in_err-was-clause-steps g c = no_step refl

pub returns-in_err-check_link-clause-steps : goal.returns-in_err-check_link-clause-steps
returns-in_err-check_link-clause-steps g c = no_step refl

pub returns-in_err-changes-clause-steps : goal.returns-in_err-changes-clause-steps
returns-in_err-changes-clause-steps g c = no_step refl

pub returns-in_err-attributes-clause-steps : goal.returns-in_err-attributes-clause-steps
returns-in_err-attributes-clause-steps g c = no_step refl
