use Rattle.block_store.proofs.Turns.{turns_then, ends_as}
use Rattle.inode_operations.proofs.Stamped.{may_stamp_resized, resized_at}
use Rattle.inode_operations.proofs.resizing.set_size_at.Goals as goal

pub returns-clause-turns : goal.returns-clause-turns
returns-clause-turns g c =
    let a = c.args in
    turns_then _ g.met.B.Blocks.lawful _ _ _ _ _ _
    (λ d e f p q. ends_as c.stamp.result _ _ _ _ (λ u h. resized_at a.geometry.now d e a.number a.size a.now p f h)
    (λ may. may_stamp_resized a.geometry.now d e a.number a.size a.now p may) q)
    c.in_ok-set_size.ensures.turns c.stamp.ensures.turns
