use Rattle.std.proofs.Common.{rules, ◌≡◌, ◌<◌, ℕ, length, false}
use Rattle.std.specs.Prelude.{IsTrue, slice_index}
use Rattle.volume.specs.Reading.{is_data_zone}
use Rattle.block_store.proofs.Turns.{reads_by, turns_as, turns_seen, reads_none}
use Rattle.zone.proofs.Rows.{numbers_inside, numbers_outside}
use Rattle.zone.proofs.numbers.numbers.Goals as goal

pub returns-then-not-is_data_zone-clause-reads : goal.returns-then-not-is_data_zone-clause-reads
returns-then-not-is_data_zone-clause-reads g c =
    let a = c.args in
    let not : is_data_zone a.geometry.now a.zone ≡ false = search rules in
    let zeros : (k : ℕ) → k < length c.fill.new.self → slice_index c.fill.new.self k ≡ 0 = search rules in
    reads_none _ g.met.B.Blocks.lawful _ _ c.requires.on.ready (λ d. numbers_outside a.geometry.now d a.zone a.from c.fill.new.self not zeros)

pub returns-clause-reads : goal.returns-clause-reads
returns-clause-reads g c =
    let a = c.args in
    let is : IsTrue (is_data_zone a.geometry.now a.zone) = search rules in
    reads_by _ _ _ _ c.fetch.ensures.looks (turns_as _ _ _ _ _
    (λ d e x. (x.0, numbers_inside a.geometry.now c.requires.on.geometry d a.zone a.from c.bytes.result.now c.read_words.new.into is x.1 c.read_words.ensures))
    (turns_seen _ g.met.B.Blocks.lawful _ _ a.zone c.bytes.result.now (c.bytes.ensures.bytes a.zone c.in_ok-frame.ensures.frame) c.fetch.ensures.turns))
