use Rattle.std.proofs.Common.{◌≡◌, rules, false, length}
use Rattle.std.specs.Prelude.{IsTrue}
use Rattle.volume.specs.Reading.{is_data_zone}
use Rattle.block_store.proofs.Turns.{reads_as, reads_then, if_cut}
use Rattle.directory.proofs.Pages.{entry_there, entry_missing}
use Rattle.directory.proofs.look_up.entry.Goals as goal

pub returns-then-not-is_data_zone-clause-reads : goal.returns-then-not-is_data_zone-clause-reads
returns-then-not-is_data_zone-clause-reads g c =
    let outside : is_data_zone c.args.geometry.now c.in_ok-zone.zone ≡ false = search rules in
    let many : length c.no_entry-bytes.result ≡ 64 = search rules in
    reads_as _ _ _ _ _
    (λ d p. entry_missing c.args.geometry.now d c.args.inode.now c.args.k c.in_ok-zone.zone c.no_entry-bytes.result
    c.requires.on.geometry outside many c.no_entry-bytes.ensures p)
    c.in_ok-zone.ensures.reads

pub returns-in_err-read_bytes-clause-reads : goal.returns-in_err-read_bytes-clause-reads
returns-in_err-read_bytes-clause-reads g c =
    reads_then _ g.met.B.Blocks.lawful _ _ _ _ _ _ (λ d p q. if_cut c.from_residual-in_err-read_bytes.result _ c.from_residual-in_err-read_bytes.ensures.0)
    c.in_ok-zone.ensures.reads c.read_bytes.ensures.reads

pub returns-clause-reads : goal.returns-clause-reads
returns-clause-reads g c =
    let holds : IsTrue (is_data_zone c.args.geometry.now c.in_ok-zone.zone) = search rules in
    let many : length c.read_bytes.new.into ≡ 64 = search rules in
    reads_then _ g.met.B.Blocks.lawful _ _ _ _ _ _
    (λ d p q. entry_there c.args.geometry.now d c.args.inode.now c.args.k c.in_ok-zone.zone c.read_bytes.new.into c.requires.on.geometry holds c.requires.below many p q)
    c.in_ok-zone.ensures.reads c.in_ok-read_bytes.ensures.reads
