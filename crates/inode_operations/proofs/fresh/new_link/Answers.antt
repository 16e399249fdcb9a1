use Rattle.std.proofs.Common.{subst}
use Rattle.volume.specs.declared.Inode.{Inode}
use Rattle.volume.specs.Pieces.{pieces}
use Rattle.block_store.specs.Volume.{Alters}
use Rattle.block_store.proofs.Turns.{ends_as, turns_as, turns_then}
use Rattle.block_store.proofs.Ending.{ends_exit}
use Rattle.inode_operations.specs.NewNodes.{with_new_inode}
use Rattle.inode_operations.proofs.NewLinks.{link_makes, may_begin}
use Rattle.inode_operations.proofs.fresh.new_link.Goals as goal

pub returns-in_err-mark-clause-turns : goal.returns-in_err-mark-clause-turns
returns-in_err-mark-clause-turns g c =
    turns_as _ _ _ _ _ (λ d e p. ends_exit _ _ _ _ _ _ c.from_residual.ensures.1 (λ may. may.make.number) p) c.in_err-mark.ensures.turns

pub returns-clause-turns : goal.returns-clause-turns
returns-clause-turns g c =
    let a = c.args in
    let v = a.geometry.now in
    let ok = c.requires.on.geometry in
    let r = c.requires in
    turns_then _ g.met.B.Blocks.lawful _ _ _ _ _ _
    (λ d e f p q.
    let alters = subst (λ (i : Inode). Alters v (with_new_inode (pieces v d) a.number i) d e) c.new_inode-inode.ensures p in
    ends_as _ _ _ _ _
    (λ x writes. link_makes v ok a.number a.now a.user a.target.now r.some r.few d e alters f writes)
    (λ may. may_begin v ok a.number a.now a.user a.target.now r.some r.few d e alters may) q)
    c.in_ok-mark.ensures.turns c.write_at.ensures.turns
