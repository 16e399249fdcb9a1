use Rattle.std.proofs.Common.{◌∙◌}
use Rattle.std.specs.Prelude.{slice_index}
use Rattle.volume.specs.Reading.{bit_in}
use Rattle.volume.specs.Pieces.{pieces}
use Rattle.block_store.proofs.Turns.{reads_by, turns_as, turns_seen}
use Rattle.bitmap.specs.Maps.{numbers_in}
use Rattle.bitmap.proofs.Blocks.{in_block, count_moved}
use Rattle.bitmap.proofs.search.count_in.Goals as goal

pub returns-clause-reads : goal.returns-clause-reads
returns-clause-reads g c =
    let p = c.part_of-part in
    let m = c.args.map in
    let v = c.args.geometry.now in
    reads_by _ _ _ _ c.fetch.ensures.looks (turns_as _ _ _ _ _
    (λ d e x. (
      x.0,
      c.count_clear.ensures.value
          ∙ count_moved (numbers_in m (pieces v d)) (bit_in (slice_index c.bytes.result.now)) p.result.first p.result.from p.result.end
          (in_block m v d c.args.k p.result.block p.result.first p.result.from p.result.end c.bytes.result.now p.ensures.block p.ensures.first p.ensures.end p.ensures.within x.1)
          _ _ p.ensures.some p.ensures.from p.ensures.end,
    ))
    (turns_seen _ g.met.B.Blocks.lawful _ _ p.result.block c.bytes.result.now (c.bytes.ensures.bytes p.result.block c.in_ok-frame.ensures.frame) c.fetch.ensures.turns))
