use Rattle.std.proofs.Common.{subst, sym}
use Rattle.lemmas.specs.Sums.{one_if}
use Rattle.block_store.proofs.Turns.{turns_as, turns_then, ends_as}
use Rattle.block_store.proofs.Ending.{ends_exit}
use Rattle.inode_operations.specs.Leads.{Leads}
use Rattle.inode_operations.specs.Moves.{MayPutIn, with_entry_and_links}
use Rattle.inode_operations.proofs.Putting.{may_insert, in_file, in_directory, in_then_add}
use Rattle.inode_operations.proofs.steps.put_in.Goals as goal

pub returns-in_err-insert-clause-turns : goal.returns-in_err-insert-clause-turns
returns-in_err-insert-clause-turns g c =
    let a = c.args in
    turns_as _ _ _ _ _
    (λ d e p. ends_exit _ _ _ _ _ _ c.from_residual.ensures.1 (λ k. may_insert a.geometry.now c.requires.on.geometry a.directory a.now a.name.now a.number d k) p)
    c.in_err-insert.ensures.turns

pub returns-then-not-is_directory-clause-turns : goal.returns-then-not-is_directory-clause-turns
returns-then-not-is_directory-clause-turns g c =
    let a = c.args in
    let v = a.geometry.now in
    turns_as _ _ _ _ _
    (λ d e p. subst (λ b. Leads v (MayPutIn v a.now a.directory a.name.now a.number) (with_entry_and_links a.now a.directory a.name.now a.number (one_if b)) d e) (sym c.if-not-is_directory.true)
    (in_file v c.requires.on.geometry a.directory a.now a.name.now a.number d e p))
    c.in_ok-insert.ensures.turns

pub returns-clause-turns : goal.returns-clause-turns
returns-clause-turns g c =
    let a = c.args in
    let v = a.geometry.now in
    turns_then _ g.met.B.Blocks.lawful _ _ _ _ _ _
    (λ d e f p q. ends_as _ _ _ _ _
    (λ x r. subst (λ b. Leads v (MayPutIn v a.now a.directory a.name.now a.number) (with_entry_and_links a.now a.directory a.name.now a.number (one_if b)) d f) (sym c.if-not-is_directory.false)
    (in_directory v c.requires.on.geometry a.directory a.now a.name.now a.number d e f p r))
    (λ k. in_then_add v c.requires.on.geometry a.directory a.now a.name.now a.number d e p k) q)
    c.in_ok-insert.ensures.turns c.add_link.ensures.turns
