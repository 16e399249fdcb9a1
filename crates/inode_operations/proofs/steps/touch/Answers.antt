use Rattle.block_store.proofs.Turns.{turns_as, turns_then, ends_as}
use Rattle.block_store.proofs.Ending.{ends_exit}
use Rattle.zone.proofs.ZoneInodes.{inode_is}
use Rattle.volume.specs.Pieces.{pieces}
use Rattle.inode_operations.proofs.Settling.{of_there, may_touch, touch_leads}
use Rattle.inode_operations.proofs.steps.touch.Goals as goal

pub returns-in_err-inode-clause-turns : goal.returns-in_err-inode-clause-turns
returns-in_err-inode-clause-turns g c =
    let a = c.args in
    turns_as _ _ _ _ _
    (λ d e p. ends_exit _ _ _ _ _ _ c.from_residual.ensures.1 (λ k. inode_is a.geometry.now (pieces a.geometry.now d) a.number (of_there a.geometry.now c.requires.on.geometry a.number a.now d k).marked) p.1)
    c.in_err-inode.ensures.reads.turns

pub returns-clause-turns : goal.returns-clause-turns
returns-clause-turns g c =
    let a = c.args in
    let v = a.geometry.now in
    turns_then _ g.met.B.Blocks.lawful _ _ _ _ _ _
    (λ d e f p q. ends_as _ _ _ _ _
    (λ x r. touch_leads v c.requires.on.geometry a.number a.now d e f c.in_ok-inode.inode p.0 p.1 r)
    (λ k. may_touch v c.requires.on.geometry a.number a.now d e c.in_ok-inode.inode p.0 p.1 k) q)
    c.in_ok-inode.ensures.reads.turns c.set_attributes.ensures.turns
