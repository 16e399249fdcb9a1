use Rattle.block_store.proofs.Turns.{reads_then}
use Rattle.block_store.proofs.Ending.{ends_cut_exit}
use Rattle.file.proofs.Touched.{room_read}
use Rattle.file.proofs.file_room.room.has_room_beside.Goals as goal

pub returns-in_err-free-clause-reads : goal.returns-in_err-free-clause-reads
returns-in_err-free-clause-reads g c =
    reads_then _ g.met.B.Blocks.lawful _ _ _ _ _ _ (λ d p q. ends_cut_exit _ _ _ _ c.from_residual-in_err-free.ensures.1)
    c.in_ok-more.ensures.reads c.in_err-free.ensures.reads

pub returns-clause-reads : goal.returns-clause-reads
returns-clause-reads g c =
    let a = c.args in
    reads_then _ g.met.B.Blocks.lawful _ _ _ _ _ _
    (λ d p q. room_read a.geometry.now d a.number a.at a.count a.others c.in_ok-more.more c.in_ok-free.free c.from.result c.from-2.result c.from-3.result
    c.from.ensures c.from-2.ensures c.from-3.ensures p q)
    c.in_ok-more.ensures.reads c.in_ok-free.ensures.reads
