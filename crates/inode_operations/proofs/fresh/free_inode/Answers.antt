use Rattle.volume.specs.Pieces.{pieces}
use Rattle.block_store.proofs.Turns.{if_ok, reads_as}
use Rattle.inode_operations.proofs.Lowest.{least_free}
use Rattle.inode_operations.proofs.fresh.free_inode.Goals as goal

pub returns-clause-reads : goal.returns-clause-reads
returns-clause-reads g c =
    let v = c.args.geometry.now in
    reads_as _ _ _ _ _ (λ d p. if_ok _ _ _ (λ x h. least_free v (pieces v d) x h) p) c.lowest_free.ensures.reads
