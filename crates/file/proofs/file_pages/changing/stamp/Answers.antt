use Rattle.volume.specs.Pieces.{pieces}
use Rattle.block_store.proofs.Turns.{turns_then, ends_as}
use Rattle.zone.proofs.ZoneInodes.{inode_is}
use Rattle.file.proofs.Resizing.{stamps}
use Rattle.file.proofs.file_pages.changing.stamp.Goals as goal

pub returns-clause-turns : goal.returns-clause-turns
returns-clause-turns g c =
    let a = c.args in
    turns_then _ g.met.B.Blocks.lawful _ _ _ _ _ _
    (λ d e f p q. ends_as c.store.result _ _ _ _ (λ u h. stamps a.geometry.now d e f a.number a.now c.in_ok-inode.inode p.0 p.1 h)
    (λ may. inode_is a.geometry.now (pieces a.geometry.now d) a.number may.marked) q)
    c.in_ok-inode.ensures.reads.turns c.store.ensures.turns
