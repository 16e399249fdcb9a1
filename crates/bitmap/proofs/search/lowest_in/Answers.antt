use Rattle.std.specs.Prelude.{slice_index}
use Rattle.volume.specs.Reading.{bit_in}
use Rattle.volume.specs.Pieces.{pieces}
use Rattle.block_store.proofs.Turns.{reads_by, turns_as, turns_seen}
use Rattle.bitmap.specs.Maps.{numbers_in}
use Rattle.bitmap.proofs.Blocks.{in_block, lowest_moved, none_moved}
use Rattle.bitmap.proofs.search.lowest_in.Goals as goal

pub returns-in-Some-clause-reads : goal.returns-in-Some-clause-reads
returns-in-Some-clause-reads g c =
    let p = c.part_of-part in
    let m = c.args.map in
    let v = c.args.geometry.now in
    reads_by _ _ _ _ c.fetch.ensures.looks (turns_as _ _ _ _ _
    (λ d e x. (
      x.0,
      lowest_moved (numbers_in m (pieces v d)) (bit_in (slice_index c.bytes.result.now)) p.result.first p.result.from p.result.end
          (in_block m v d c.args.k p.result.block p.result.first p.result.from p.result.end c.bytes.result.now p.ensures.block p.ensures.first p.ensures.end p.ensures.within x.1)
          c.in-Some.bit _ _ p.ensures.from p.ensures.end c.in-Some.ensures.lowest,
    ))
    (turns_seen _ g.met.B.Blocks.lawful _ _ p.result.block c.bytes.result.now (c.bytes.ensures.bytes p.result.block c.in_ok-frame.ensures.frame) c.fetch.ensures.turns))

pub returns-in-None-clause-reads : goal.returns-in-None-clause-reads
returns-in-None-clause-reads g c =
    let p = c.part_of-part in
    let m = c.args.map in
    let v = c.args.geometry.now in
    reads_by _ _ _ _ c.fetch.ensures.looks (turns_as _ _ _ _ _
    (λ d e x. (
      x.0,
      none_moved (numbers_in m (pieces v d)) (bit_in (slice_index c.bytes.result.now)) p.result.first p.result.from p.result.end
          (in_block m v d c.args.k p.result.block p.result.first p.result.from p.result.end c.bytes.result.now p.ensures.block p.ensures.first p.ensures.end p.ensures.within x.1)
          _ _ p.ensures.from p.ensures.end c.in-None.ensures.lowest,
    ))
    (turns_seen _ g.met.B.Blocks.lawful _ _ p.result.block c.bytes.result.now (c.bytes.ensures.bytes p.result.block c.in_ok-frame.ensures.frame) c.fetch.ensures.turns))
