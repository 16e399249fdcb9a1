use Rattle.block_store.proofs.Turns.{reads_then}
use Rattle.block_store.proofs.Ending.{ends_cut_exit}
use Rattle.file.proofs.Touched.{takes_read}
use Rattle.file.proofs.file_room.room.zones_for.Goals as goal

pub returns-in_err-need-clause-reads : goal.returns-in_err-need-clause-reads
returns-in_err-need-clause-reads g c =
    reads_then _ g.met.B.Blocks.lawful _ _ _ _ _ _ (λ d p q. ends_cut_exit _ _ _ _ c.from_residual-in_err-need.ensures.1)
    c.in_ok-inode.ensures.reads c.in_err-need.ensures.reads

pub returns-clause-reads : goal.returns-clause-reads
returns-clause-reads g c =
    let a = c.args in
    reads_then _ g.met.B.Blocks.lawful _ _ _ _ _ _
    (λ d p q. takes_read a.geometry.now d a.number a.at a.count c.in_ok-need.field-0 c.in_ok-inode.inode c.requires.some p q)
    c.in_ok-inode.ensures.reads c.in_ok-need.ensures.reads
