use Rattle.std.proofs.Common.{sym, ◌∙◌}
use Rattle.block_store.proofs.Turns.{turns_as, turns_none}
use Rattle.block_store.proofs.Ending.{ends_exit}
use Rattle.release.proofs.Leaving.{gone, kept, may_free}
use Rattle.release.proofs.giving.give_back.Goals as goal

pub returns-then-not-is_unlinked-clause-turns : goal.returns-then-not-is_unlinked-clause-turns
returns-then-not-is_unlinked-clause-turns g c =
    let a = c.args in
    turns_as _ _ _ _ _ (λ d e same. kept a.image.now a.number d e same (sym c.is_unlinked.ensures ∙ c.if-not-is_unlinked.true))
    (turns_none _ g.met.B.Blocks.lawful _ c.requires.on.ready)

pub returns-in_err-free_node-clause-turns : goal.returns-in_err-free_node-clause-turns
returns-in_err-free_node-clause-turns g c =
    let a = c.args in
    turns_as _ _ _ _ _
    (λ d e p. ends_exit _ _ _ _ _ _ c.from_residual.ensures.1
    (λ may. may_free a.image.now a.number d _ c.geometry.ensures c.requires.on.geometry (sym c.is_unlinked.ensures ∙ c.if-not-is_unlinked.false) may) p)
    c.in_err-free_node.ensures.turns

pub returns-clause-turns : goal.returns-clause-turns
returns-clause-turns g c =
    let a = c.args in
    turns_as _ _ _ _ _
    (λ d e p. gone a.image.now a.number d _ c.geometry.ensures c.requires.on.geometry (sym c.is_unlinked.ensures ∙ c.if-not-is_unlinked.false) e p)
    c.in_ok-free_node.ensures.turns
