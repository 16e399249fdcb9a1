use Rattle.volume.specs.Pieces.{pieces}
use Rattle.block_store.proofs.Turns.{turns_as, turns_then}
use Rattle.block_store.proofs.Ending.{ends_exit}
use Rattle.inode_operations.proofs.Freeing.{frees_node}
use Rattle.inode_operations.proofs.Storing.{may_change}
use Rattle.inode_operations.proofs.ending.free_node.Goals as goal

pub returns-in_err-set_size-clause-turns : goal.returns-in_err-set_size-clause-turns
returns-in_err-set_size-clause-turns g c =
    let a = c.args in
    turns_as _ _ _ _ _
    (λ d e p. ends_exit _ _ _ _ _ _ c.from_residual.ensures.1 (λ of. may_change a.geometry.now (pieces a.geometry.now d) a.number of) p)
    c.in_err-set_size.ensures.turns

pub returns-clause-turns : goal.returns-clause-turns
returns-clause-turns g c =
    let a = c.args in
    turns_then _ g.met.B.Blocks.lawful _ _ _ _ _ _
    (λ d m e p q. frees_node a.geometry.now a.number d m e p q)
    c.in_ok-set_size.ensures.turns c.in_ok-clear.ensures.turns
