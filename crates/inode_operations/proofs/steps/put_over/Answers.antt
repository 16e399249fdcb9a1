use Rattle.std.proofs.Common.{subst, sym}
use Rattle.lemmas.specs.Sums.{one_if}
use Rattle.block_store.proofs.Turns.{turns_as, turns_then, ends_as}
use Rattle.block_store.proofs.Ending.{ends_exit}
use Rattle.inode_operations.specs.Leads.{Leads}
use Rattle.inode_operations.specs.Moves.{MayPutOver, with_entry_and_links}
use Rattle.inode_operations.proofs.Putting.{may_replace, over_file, over_directory, over_then_add}
use Rattle.inode_operations.proofs.steps.put_over.Goals as goal

pub returns-in_err-replace-clause-turns : goal.returns-in_err-replace-clause-turns
returns-in_err-replace-clause-turns g c =
    let a = c.args in
    turns_as _ _ _ _ _
    (λ d e p. ends_exit _ _ _ _ _ _ c.from_residual.ensures.1 (λ k. may_replace a.geometry.now c.requires.on.geometry a.directory a.now a.name.now a.number d k) p)
    c.in_err-replace.ensures.turns

pub returns-then-not-is_directory-clause-turns : goal.returns-then-not-is_directory-clause-turns
returns-then-not-is_directory-clause-turns g c =
    let a = c.args in
    let v = a.geometry.now in
    turns_as _ _ _ _ _
    (λ d e p. subst (λ b. Leads v (MayPutOver a.directory a.name.now a.number) (with_entry_and_links a.now a.directory a.name.now a.number (one_if b)) d e) (sym c.if-not-is_directory.true)
    (over_file v c.requires.on.geometry a.directory a.now a.name.now a.number d e p))
    c.in_ok-replace.ensures.turns

pub returns-clause-turns : goal.returns-clause-turns
returns-clause-turns g c =
    let a = c.args in
    let v = a.geometry.now in
    turns_then _ g.met.B.Blocks.lawful _ _ _ _ _ _
    (λ d e f p q. ends_as _ _ _ _ _
    (λ x r. subst (λ b. Leads v (MayPutOver a.directory a.name.now a.number) (with_entry_and_links a.now a.directory a.name.now a.number (one_if b)) d f) (sym c.if-not-is_directory.false)
    (over_directory v c.requires.on.geometry a.directory a.now a.name.now a.number d e f p r))
    (λ k. over_then_add v c.requires.on.geometry a.directory a.now a.name.now a.number d e p k) q)
    c.in_ok-replace.ensures.turns c.add_link.ensures.turns
