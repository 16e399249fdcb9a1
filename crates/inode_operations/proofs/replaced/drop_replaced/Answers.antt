use Rattle.std.proofs.Common.{subst, sym}
use Rattle.block_store.proofs.Turns.{turns_as, turns_then, ends_as}
use Rattle.block_store.proofs.Ending.{ends_exit}
use Rattle.descriptors.specs.Table.{files_of}
use Rattle.inode_operations.specs.Leads.{Leads, CanLead}
use Rattle.inode_operations.specs.Replaced.{MayDropReplaced, without_it}
use Rattle.inode_operations.proofs.Dropping.{of_replaced, file_dropped, may_drop_parent, may_free, directory_dropped}
use Rattle.inode_operations.proofs.replaced.drop_replaced.Goals as goal

pub returns-then-not-is_directory-clause-turns : goal.returns-then-not-is_directory-clause-turns
returns-then-not-is_directory-clause-turns g c =
    let a = c.args in
    let v = a.geometry.now in
    let f = files_of a.opens.now in
    turns_as _ _ _ _ _
    (λ d e p. ends_as _ _ _ _ _
    (λ x r. subst (λ b. Leads v (MayDropReplaced f a.now a.number a.parent b) (without_it a.now a.number a.parent b) d e) (sym c.if-not-is_directory.true)
    (file_dropped v c.requires.on.geometry f a.now a.number a.parent d e r))
    (λ k. of_replaced v c.requires.on.geometry f a.now a.number a.parent a.is_directory d k) p)
    c.lose_name.ensures.turns

pub returns-in_err-drop_link-clause-turns : goal.returns-in_err-drop_link-clause-turns
returns-in_err-drop_link-clause-turns g c =
    let a = c.args in
    let v = a.geometry.now in
    let f = files_of a.opens.now in
    turns_as _ _ _ _ _
    (λ d e p. ends_exit _ _ _ _ _ _ c.from_residual.ensures.1
    (λ k. may_drop_parent v c.requires.on.geometry f a.now a.number a.parent d (subst (λ b. CanLead v (MayDropReplaced f a.now a.number a.parent b) d) c.if-not-is_directory.false k)) p)
    c.in_err-drop_link.ensures.turns

pub returns-clause-turns : goal.returns-clause-turns
returns-clause-turns g c =
    let a = c.args in
    let v = a.geometry.now in
    let f = files_of a.opens.now in
    turns_then _ g.met.B.Blocks.lawful _ _ _ _ _ _
    (λ d e h p q. ends_as _ _ _ _ _
    (λ x r. subst (λ b. Leads v (MayDropReplaced f a.now a.number a.parent b) (without_it a.now a.number a.parent b) d h) (sym c.if-not-is_directory.false)
    (directory_dropped v c.requires.on.geometry f a.now a.number a.parent d e p h r))
    (λ k. may_free v c.requires.on.geometry f a.now a.number a.parent d e p (subst (λ b. CanLead v (MayDropReplaced f a.now a.number a.parent b) d) c.if-not-is_directory.false k)) q)
    c.in_ok-drop_link.ensures.turns c.free_node.ensures.turns
