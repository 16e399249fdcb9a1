use Rattle.std.proofs.Common.{sym}
use Rattle.std.specs.Prelude.{IsTrue}
use Rattle.volume.specs.Reading.{is_inode}
use Rattle.block_store.proofs.Turns.{reads_by, turns_as, turns_seen}
use Rattle.inode.proofs.Saved.{loaded}
use Rattle.inode.proofs.inode_table.load.Goals as goal

pub returns-clause-reads : goal.returns-clause-reads
returns-clause-reads g c =
    let p = c.place_of-place in
    let is : IsTrue (is_inode c.args.geometry.now c.args.number) = sym c.if-not-has_number.ensures in
    reads_by _ _ _ _ c.fetch.ensures.looks (turns_as _ _ _ _ _
    (λ d e x. (x.0, loaded c.args.geometry.now d c.args.number p.result.block p.result.at _ _ is p.ensures.block p.ensures.at c.decode_in.ensures x.1))
    (turns_seen _ g.met.B.Blocks.lawful _ _ p.result.block c.bytes.result.now (c.bytes.ensures.bytes p.result.block c.in_ok-frame.ensures.frame) c.fetch.ensures.turns))
