use Rattle.volume.specs.Pieces.{pieces}
use Rattle.block_store.proofs.Turns.{turns_as, ends_as}
use Rattle.inode_operations.proofs.Storing.{attributes_set, number_is}
use Rattle.inode_operations.proofs.attributes.set_attributes.Goals as goal

pub returns-clause-turns : goal.returns-clause-turns
returns-clause-turns g c =
    let a = c.args in
    turns_as _ _ _ _ _
    (λ d e p. ends_as _ _ _ _ _ (λ x alters. attributes_set a.geometry.now d e a.number a.inode.now alters) (λ may. number_is a.geometry.now (pieces a.geometry.now d) a.number may.of) p)
    c.store.ensures.turns
