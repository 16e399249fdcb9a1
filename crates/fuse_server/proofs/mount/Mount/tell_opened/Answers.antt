use Rattle.std.proofs.Common.{Some, ap}
use Rattle.fuse.specs.declared.reply.Attributes.{Attributes}
use Rattle.fuse_nodes.specs.Known.{known_of}
use Rattle.fuse_server.proofs.Entries.{opened_entry}
use Rattle.fuse_server.proofs.Steps.{steps_on, step_forgotten, step_opened, step_told}
use Rattle.fuse_server.proofs.mount.Mount.tell_opened.Goals as goal

pub returns-in-Ok-clause-told : goal.returns-in-Ok-clause-told
returns-in-Ok-clause-told c =
    opened_entry (known_of c.args.self.now.nodes) (known_of c.told.new.self) (known_of c.opened.new.self) c.args.attributes.now.inode
    c.kind_of-kind.result c.in_ok-node.node (Some c.args.descriptor) c.entry_of.result
    c.in_ok-node.ensures.ok c.opened.ensures c.in_ok-node.ensures.number c.entry_of.ensures.node
    (ap (λ (a : Attributes). a.inode) c.entry_of.ensures.attributes)

pub returns-in-Ok-clause-steps : goal.returns-in-Ok-clause-steps
returns-in-Ok-clause-steps c = steps_on (step_told _ _ c.in_ok-node.ensures.ok)
    (step_opened c.in_ok-node.node (Some c.args.descriptor) c.opened.ensures)

pub returns-in-Err-clause-steps : goal.returns-in-Err-clause-steps
returns-in-Err-clause-steps c = steps_on (step_told _ _ c.in_ok-node.ensures.ok) (step_forgotten _ _ c.forget.ensures)
