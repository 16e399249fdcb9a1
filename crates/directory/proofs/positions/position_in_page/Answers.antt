use Rattle.std.proofs.Common.{◌≡◌, rules, false, refl}
use Rattle.std.specs.Prelude.{IsTrue}
use Rattle.volume.specs.Reading.{is_data_zone}
use Rattle.block_store.proofs.Turns.{reads_as, reads_by, reads_then, turns_as, turns_seen, if_cut}
use Rattle.directory.proofs.Standing.{stands_there, none_there, none_missing}
use Rattle.directory.proofs.positions.position_in_page.Goals as goal

pub returns-then-not-is_data_zone-clause-reads : goal.returns-then-not-is_data_zone-clause-reads
returns-then-not-is_data_zone-clause-reads g c =
    let holds : is_data_zone c.args.geometry.now c.in_ok-zone.zone ≡ false = search rules in
    reads_as _ _ _ _ _
    (λ d p. none_missing c.args.geometry.now d c.args.inode.now c.args.page c.in_ok-zone.zone c.args.from c.args.to c.args.name.now
    c.requires.on.geometry holds c.requires.begins c.requires.ends c.requires.named p)
    c.in_ok-zone.ensures.reads

pub returns-in_err-frame-clause-reads : goal.returns-in_err-frame-clause-reads
returns-in_err-frame-clause-reads g c =
    reads_then _ g.met.B.Blocks.lawful _ _ _ _ (λ d. d ≡ d) _
    (λ d p q. if_cut c.from_residual-in_err-frame.result _ c.from_residual-in_err-frame.ensures.0)
    c.in_ok-zone.ensures.reads
    (reads_by _ _ _ _ c.fetch.ensures.looks (turns_as _ _ _ _ _ (λ d e x. (x, refl)) c.fetch.ensures.turns))

pub returns-in-Some-clause-reads : goal.returns-in-Some-clause-reads
returns-in-Some-clause-reads g c =
    let holds : IsTrue (is_data_zone c.args.geometry.now c.in_ok-zone.zone) = search rules in
    reads_then _ g.met.B.Blocks.lawful _ _ _ _ _ _
    (λ d p q. stands_there c.args.geometry.now d c.args.inode.now c.args.page c.in_ok-zone.zone c.args.from c.args.to c.in-Some.at c.bytes-bytes.result.now c.args.name.now
    c.requires.on.geometry holds c.requires.begins c.requires.order c.requires.ends c.requires.size p q c.in-Some.ensures)
    c.in_ok-zone.ensures.reads
    (reads_by _ _ _ _ c.fetch.ensures.looks
    (turns_seen _ g.met.B.Blocks.lawful _ _ c.in_ok-zone.zone c.bytes-bytes.result.now
    (c.bytes-bytes.ensures.bytes c.in_ok-zone.zone c.in_ok-frame.ensures.frame) c.fetch.ensures.turns))

pub returns-in-None-clause-reads : goal.returns-in-None-clause-reads
returns-in-None-clause-reads g c =
    let holds : IsTrue (is_data_zone c.args.geometry.now c.in_ok-zone.zone) = search rules in
    reads_then _ g.met.B.Blocks.lawful _ _ _ _ _ _
    (λ d p q. none_there c.args.geometry.now d c.args.inode.now c.args.page c.in_ok-zone.zone c.args.from c.args.to c.bytes-bytes.result.now c.args.name.now
    c.requires.on.geometry holds c.requires.begins c.requires.order c.requires.ends c.requires.size p q c.in-None.ensures)
    c.in_ok-zone.ensures.reads
    (reads_by _ _ _ _ c.fetch.ensures.looks
    (turns_seen _ g.met.B.Blocks.lawful _ _ c.in_ok-zone.zone c.bytes-bytes.result.now
    (c.bytes-bytes.ensures.bytes c.in_ok-zone.zone c.in_ok-frame.ensures.frame) c.fetch.ensures.turns))
