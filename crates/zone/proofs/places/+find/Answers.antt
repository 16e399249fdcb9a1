use Rattle.volume.specs.Pieces.{pieces}
use Rattle.volume.proofs.Volumes.{numbers_sized}
use Rattle.block_store.proofs.Turns.{reads_then, if_ok}
use Rattle.zone.proofs.Levels.{found_outer}
use Rattle.zone.proofs.places.+find.Goals as goal

pub returns-clause-reads : goal.returns-clause-reads
returns-clause-reads g t c =
    let a = c.args in
    reads_then _ g.met.B.Blocks.lawful _ _ _ _ _ _
    (λ d p q. if_ok c.number.result _ _ (λ x is. found_outer a.geometry.now (pieces a.geometry.now d) a.inode.now a.level a.place _ _ _ x (numbers_sized a.geometry.now c.requires.on.geometry)
    c.requires.level c.if-level-eq3.false c.first_places-first.ensures c.numbers_in_zone-width.ensures c.if-place-first.false p is) q)
    c.in_ok-block.ensures.reads c.number.ensures.reads
