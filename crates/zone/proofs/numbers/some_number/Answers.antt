use Rattle.volume.specs.Pieces.{pieces}
use Rattle.block_store.proofs.Turns.{if_ok, reads_then}
use Rattle.zone.proofs.Frames.{last_is_some}
use Rattle.zone.proofs.numbers.some_number.Goals as goal

pub returns-clause-reads : goal.returns-clause-reads
returns-clause-reads g c =
    let a = c.args in
    reads_then _ g.met.B.Blocks.lawful _ _ _ _ _ _
    (λ d p q. if_ok c.last_number-2.result _ _ (λ x h. last_is_some a.geometry.now (pieces a.geometry.now d) a.zone _ x c.numbers_in_zone.ensures h) q)
    c.in_ok-before.ensures.reads c.last_number-2.ensures.reads
