use Rattle.std.proofs.Common.{subst, sym}
use Rattle.block_store.proofs.Turns.{turns_as, turns_then, ends_as}
use Rattle.block_store.proofs.Ending.{ends_exit}
use Rattle.inode_operations.specs.Leads.{Leads, CanLead}
use Rattle.inode_operations.specs.Moves.{MaySettle, settled}
use Rattle.inode_operations.proofs.Settling.{may_parent, settled_directory, settled_file, file_touch, can_touch}
use Rattle.inode_operations.proofs.steps.settle.Goals as goal

pub returns-then-not-is_directory-clause-turns : goal.returns-then-not-is_directory-clause-turns
returns-then-not-is_directory-clause-turns g c =
    let a = c.args in
    let v = a.geometry.now in
    turns_as _ _ _ _ _
    (λ d e p. ends_as _ _ _ _ _
    (λ x r. subst (λ b. Leads v (MaySettle a.number a.parent b) (settled a.now a.number a.parent) d e) (sym c.if-not-is_directory.true)
    (settled_file v c.requires.on.geometry a.number a.now a.parent d e r))
    (λ k. file_touch v c.requires.on.geometry a.number a.now a.parent d (subst (λ b. CanLead v (MaySettle a.number a.parent b) d) c.if-not-is_directory.true k)) p)
    c.touch.ensures.turns

pub returns-in_err-set_parent-clause-turns : goal.returns-in_err-set_parent-clause-turns
returns-in_err-set_parent-clause-turns g c =
    let a = c.args in
    let v = a.geometry.now in
    turns_as _ _ _ _ _
    (λ d e p. ends_exit _ _ _ _ _ _ c.from_residual.ensures.1
    (λ k. may_parent v c.requires.on.geometry a.number a.now a.parent d (subst (λ b. CanLead v (MaySettle a.number a.parent b) d) c.if-not-is_directory.false k)) p)
    c.in_err-set_parent.ensures.turns

pub returns-clause-turns : goal.returns-clause-turns
returns-clause-turns g c =
    let a = c.args in
    let v = a.geometry.now in
    turns_then _ g.met.B.Blocks.lawful _ _ _ _ _ _
    (λ d e f p q. ends_as _ _ _ _ _
    (λ x r. subst (λ b. Leads v (MaySettle a.number a.parent b) (settled a.now a.number a.parent) d f) (sym c.if-not-is_directory.false)
    (settled_directory v c.requires.on.geometry a.number a.now a.parent d e f p r))
    (λ k. can_touch v c.requires.on.geometry a.number a.now a.parent d e p (subst (λ b. CanLead v (MaySettle a.number a.parent b) d) c.if-not-is_directory.false k)) q)
    c.in_ok-set_parent.ensures.turns c.touch-2.ensures.turns
