use Rattle.std.proofs.Common.{◌-◌, ◌/◌, refl}
use Rattle.volume.specs.Pieces.{pieces}
use Rattle.volume.proofs.Volumes.{numbers_sized}
use Rattle.block_store.proofs.Turns.{reads_then, if_cut}
use Rattle.zone.proofs.Last.{beside_last}
use Rattle.zone.proofs.cutting.pages.last_beside.Goals as goal

pub returns-in_err-index-clause-reads : goal.returns-in_err-index-clause-reads
returns-in_err-index-clause-reads g c =
    reads_then _ g.met.B.Blocks.lawful _ _ _ _ _ _ (λ d p q. if_cut c.from_residual-in_err-index.result _ c.from_residual-in_err-index.ensures.0)
    c.in_ok-block.ensures.reads c.in_err-index.ensures.reads

pub returns-in-Some-clause-reads : goal.returns-in-Some-clause-reads
returns-in-Some-clause-reads g c =
    let a = c.args in
    let first = c.first_places-first.result in
    let w = c.numbers_in_zone-width.result in
    let past = a.end - 1 - first in
    reads_then _ g.met.B.Blocks.lawful _ _ _ _ _ _
    (λ d p q. beside_last a.geometry.now (pieces a.geometry.now d) a.inode.now a.end first w past (past / w) c.in_ok-block.block c.in-Some.index c.in_ok-index.field-0
    (numbers_sized a.geometry.now c.requires.on.geometry) c.first_places-first.ensures c.if-end-first.false c.numbers_in_zone-width.ensures refl refl p c.in-Some.is q)
    c.in_ok-block.ensures.reads c.in_ok-index.ensures.reads

pub returns-clause-reads : goal.returns-clause-reads
returns-clause-reads g c =
    reads_then _ g.met.B.Blocks.lawful _ _ _ _ _ _ (λ d p q. tt) c.in_ok-block.ensures.reads c.in_ok-index.ensures.reads
