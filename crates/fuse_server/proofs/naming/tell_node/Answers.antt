use Rattle.std.proofs.Common.{ap}
use Rattle.fuse.specs.declared.reply.Attributes.{Attributes}
use Rattle.fuse_nodes.specs.Known.{known_of}
use Rattle.fuse_server.proofs.Entries.{known_entry, told_keeps}
use Rattle.fuse_server.proofs.Steps.{no_step, step_told}
use Rattle.fuse_server.proofs.naming.tell_node.Goals as goal

pub returns-clause-told : goal.returns-clause-told
returns-clause-told c =
    known_entry (known_of c.args.nodes.now) (known_of c.told.new.self) c.args.attributes.now.inode c.kind_of.result c.in_ok-node.node
    c.entry_of.result c.in_ok-node.ensures.ok c.in_ok-node.ensures.number c.entry_of.ensures.node
    (ap (λ (a : Attributes). a.inode) c.entry_of.ensures.attributes)

pub returns-clause-kept : goal.returns-clause-kept
returns-clause-kept c =
    told_keeps (known_of c.args.nodes.now) (known_of c.told.new.self) c.args.attributes.now.inode c.kind_of.result c.in_ok-node.ensures.ok

pub returns-in_err-node-clause-steps : goal.returns-in_err-node-clause-steps
returns-in_err-node-clause-steps c = no_step c.in_err-node.ensures.err

pub returns-clause-steps : goal.returns-clause-steps
returns-clause-steps c = step_told _ _ c.in_ok-node.ensures.ok
