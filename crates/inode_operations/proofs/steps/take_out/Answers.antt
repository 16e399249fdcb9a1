use Rattle.std.proofs.Common.{subst, sym}
use Rattle.lemmas.specs.Sums.{one_if}
use Rattle.block_store.proofs.Turns.{turns_as, turns_then, ends_as}
use Rattle.block_store.proofs.Ending.{ends_exit}
use Rattle.inode_operations.specs.Leads.{Leads}
use Rattle.inode_operations.specs.Moves.{MayTakeOut, taken_out}
use Rattle.inode_operations.proofs.Parents.{may_remove, taken_file, taken_directory, may_then_drop}
use Rattle.inode_operations.proofs.steps.take_out.Goals as goal

pub returns-in_err-remove-clause-turns : goal.returns-in_err-remove-clause-turns
returns-in_err-remove-clause-turns g c =
    let a = c.args in
    turns_as _ _ _ _ _ (λ d e p. ends_exit _ _ _ _ _ _ c.from_residual.ensures.1 (λ k. may_remove a.geometry.now c.requires.on.geometry a.directory a.now a.name.now d k) p) c.in_err-remove.ensures.turns

pub returns-then-not-is_directory-clause-turns : goal.returns-then-not-is_directory-clause-turns
returns-then-not-is_directory-clause-turns g c =
    let a = c.args in
    let v = a.geometry.now in
    turns_as _ _ _ _ _
    (λ d e p. subst (λ b. Leads v (MayTakeOut a.directory a.name.now) (taken_out a.now a.directory a.name.now (one_if b)) d e) (sym c.if-not-is_directory.true)
    (taken_file v c.requires.on.geometry a.directory a.now a.name.now d e p))
    c.in_ok-remove.ensures.turns

pub returns-clause-turns : goal.returns-clause-turns
returns-clause-turns g c =
    let a = c.args in
    let v = a.geometry.now in
    turns_then _ g.met.B.Blocks.lawful _ _ _ _ _ _
    (λ d e f p q. ends_as _ _ _ _ _
    (λ x r. subst (λ b. Leads v (MayTakeOut a.directory a.name.now) (taken_out a.now a.directory a.name.now (one_if b)) d f) (sym c.if-not-is_directory.false)
    (taken_directory v c.requires.on.geometry a.directory a.now a.name.now d e f p r))
    (λ k. may_then_drop v c.requires.on.geometry a.directory a.now a.name.now d e p k) q)
    c.in_ok-remove.ensures.turns c.drop_link.ensures.turns
