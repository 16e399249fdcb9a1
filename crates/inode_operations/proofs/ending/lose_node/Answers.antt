use Rattle.std.proofs.Common.{◌<◌, ◌≡◌, ◌≢◌, rules, arith, ap, sym, subst, ◌∙◌}
use Rattle.volume.specs.declared.Inode.{Inode}
use Rattle.volume.specs.Pieces.{pieces}
use Rattle.descriptors.specs.Table.{files_of}
use Rattle.block_store.proofs.Turns.{turns_as, turns_then, ends_as}
use Rattle.inode_operations.specs.Steps.{IsOfNode}
use Rattle.inode_operations.proofs.Losing.{node_kept, has_link, stays_open, is_nameless, node_gone}
use Rattle.inode_operations.proofs.ending.lose_node.Goals as goal

pub returns-then-inode-gt0-clause-turns : goal.returns-then-inode-gt0-clause-turns
returns-then-inode-gt0-clause-turns g c =
    let a = c.args in
    let f = files_of a.opens.now in
    let some : c.in_ok-inode.inode.links ≢ 0 = let l : 0 < c.in_ok-inode.inode.links = search rules in λ e. absurd (omega (arith, l, e)) in
    turns_as _ _ _ _ _
    (λ d e p. node_kept a.geometry.now f a.number d e p.0 (has_link a.geometry.now f a.number d c.in_ok-inode.inode p.1 some))
    c.in_ok-inode.ensures.reads.turns

pub returns-then-is_open-clause-turns : goal.returns-then-is_open-clause-turns
returns-then-is_open-clause-turns g c =
    let a = c.args in
    let f = files_of a.opens.now in
    turns_as _ _ _ _ _
    (λ d e p. node_kept a.geometry.now f a.number d e p.0 (stays_open a.geometry.now f a.number d (sym c.is_open.ensures ∙ c.if-is_open.true)))
    c.in_ok-inode.ensures.reads.turns

pub returns-clause-turns : goal.returns-clause-turns
returns-clause-turns g c =
    let a = c.args in
    let f = files_of a.opens.now in
    let none : c.in_ok-inode.inode.links ≡ 0 = search rules in
    turns_then _ g.met.B.Blocks.lawful _ _ _ _ _ _
    (λ d x e p q. ends_as _ _ _ _ _
    (λ y frees. node_gone a.geometry.now f a.number d x e p.0 (is_nameless a.geometry.now f a.number d c.in_ok-inode.inode p.1 none (sym c.is_open.ensures ∙ c.if-is_open.false)) frees)
    (λ of. subst (λ z. IsOfNode a.geometry.now (pieces a.geometry.now z) a.number) (sym p.0) of) q)
    c.in_ok-inode.ensures.reads.turns c.free_node.ensures.turns

pub returns-in_err-inode-clause-looks : goal.returns-in_err-inode-clause-looks
returns-in_err-inode-clause-looks g c = turns_as _ _ _ _ _ (λ d e p some. c.in_err-inode.ensures.reads.looks) c.in_err-inode.ensures.reads.turns

pub returns-then-inode-gt0-clause-looks : goal.returns-then-inode-gt0-clause-looks
returns-then-inode-gt0-clause-looks g c = turns_as _ _ _ _ _ (λ d e p some. c.in_ok-inode.ensures.reads.looks) c.in_ok-inode.ensures.reads.turns

pub returns-then-is_open-clause-looks : goal.returns-then-is_open-clause-looks
returns-then-is_open-clause-looks g c = turns_as _ _ _ _ _ (λ d e p some. c.in_ok-inode.ensures.reads.looks) c.in_ok-inode.ensures.reads.turns

pub returns-clause-looks : goal.returns-clause-looks
returns-clause-looks g c =
    let none : c.in_ok-inode.inode.links ≡ 0 = search rules in
    turns_then _ g.met.B.Blocks.lawful _ _ _ _ _ _ (λ d x e p q some. absurd (some (ap (λ (i : Inode). i.links) (sym p.1) ∙ none)))
    c.in_ok-inode.ensures.reads.turns c.free_node.ensures.turns
