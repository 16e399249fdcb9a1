use Rattle.std.proofs.Common.{rules}
use Rattle.std.specs.Prelude.{IsTrue}
use Rattle.volume.specs.Reading.{is_data_zone}
use Rattle.block_store.proofs.Turns.{reads_by, turns_as, turns_seen}
use Rattle.zone.proofs.Frames.{last_number_is}
use Rattle.zone.proofs.numbers.last_number.Goals as goal

pub returns-clause-reads : goal.returns-clause-reads
returns-clause-reads g c =
    let is : IsTrue (is_data_zone c.args.geometry.now c.args.zone) = search rules in
    reads_by _ _ _ _ c.fetch.ensures.looks (turns_as _ _ _ _ _
    (λ d e x. (x.0, last_number_is c.args.geometry.now c.requires.on.geometry d c.args.zone c.args.before _ _ is x.1 c.last_word.ensures))
    (turns_seen _ g.met.B.Blocks.lawful _ _ c.args.zone c.bytes.result.now (c.bytes.ensures.bytes c.args.zone c.in_ok-frame.ensures.frame) c.fetch.ensures.turns))
