use Rattle.volume.specs.Pieces.{pieces}
use Rattle.volume.proofs.Volumes.{numbers_sized}
use Rattle.block_store.proofs.Turns.{reads_as, reads_then, if_cut}
use Rattle.file.proofs.Needed.{need_near, need_up}
use Rattle.std.proofs.Common.{arith}
use Rattle.file.proofs.file_room.pages.+need_at.Goals as goal

pub returns-then-end-first-clause-reads : goal.returns-then-end-first-clause-reads
returns-then-end-first-clause-reads g t c =
    let a = c.args in
    reads_as _ _ _ _ _ (λ d p. need_near a.geometry.now (pieces a.geometry.now d) a.inode.now a.level a.from a.end _ _ (numbers_sized a.geometry.now c.requires.on.geometry) c.requires.level c.requires.order c.requires.end
    c.first_places-first.ensures c.if-end-first.true p)
    c.in_ok-here.ensures.reads

pub returns-in_err-above-clause-reads : goal.returns-in_err-above-clause-reads
returns-in_err-above-clause-reads g t c =
    reads_then _ g.met.B.Blocks.lawful _ _ _ _ _ _ (λ d p q. if_cut c.from_residual-in_err-above.result _ c.from_residual-in_err-above.ensures.0)
    c.in_ok-here.ensures.reads c.in_err-above.ensures.reads

pub returns-clause-reads : goal.returns-clause-reads
returns-clause-reads g t c =
    let a = c.args in
    let low = c.requires.level in
    let differ = c.if-level-eq3.false in
    reads_then _ g.met.B.Blocks.lawful _ _ _ _ _ _
    (λ d p q. need_up a.geometry.now (pieces a.geometry.now d) a.inode.now a.level a.from a.end _ _ _ _ _ (numbers_sized a.geometry.now c.requires.on.geometry) (omega (arith, low, differ)) c.requires.order c.requires.end
    c.first_places-first.ensures c.numbers_in_zone-width.ensures c.if-end-first.false c.saturating_sub.ensures p q)
    c.in_ok-here.ensures.reads c.in_ok-above.ensures.reads
