use Rattle.std.proofs.Common.{arith}
use Rattle.volume.specs.Pieces.{pieces}
use Rattle.block_store.proofs.Turns.{reads_none, reads_as, if_ok}
use Rattle.file.proofs.Needed.{need_none, need_whole}
use Rattle.file.proofs.file_room.pages.need.Goals as goal

pub returns-then-count-eq0-clause-reads : goal.returns-then-count-eq0-clause-reads
returns-then-count-eq0-clause-reads g c =
    let a = c.args in
    let none = c.if-count-eq0.true in
    reads_none _ g.met.B.Blocks.lawful _ _ c.requires.on.ready (λ d. need_none a.geometry.now (pieces a.geometry.now d) a.inode.now a.first _ (omega (arith, none)))

pub returns-clause-reads : goal.returns-clause-reads
returns-clause-reads g c =
    let a = c.args in
    reads_as _ _ _ _ _ (λ d p. if_ok c.need_at.result _ _ (λ x h. need_whole a.geometry.now (pieces a.geometry.now d) a.inode.now a.first _ x h) p) c.need_at.ensures.reads
