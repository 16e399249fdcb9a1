use Rattle.block_store.proofs.Turns.{turns_then, ends_as}
use Rattle.inode_operations.proofs.Storing.{link_dropped, may_set}
use Rattle.inode_operations.proofs.attributes.drop_link.Goals as goal

pub returns-clause-turns : goal.returns-clause-turns
returns-clause-turns g c =
    let a = c.args in
    let i = c.in_ok-inode.inode in
    turns_then _ g.met.B.Blocks.lawful _ _ _ _ _ _
    (λ d x e p q. ends_as _ _ _ _ _ (λ y sets. link_dropped a.geometry.now d x e a.number a.now _ i p.0 p.1 sets c.saturating_sub.ensures)
    (λ of. may_set a.geometry.now d x a.number a.now _ i p.0 p.1 of) q)
    c.in_ok-inode.ensures.reads.turns c.set_attributes.ensures.turns
