use Rattle.std.proofs.Common.{◌≡◌, sym, length, rules}
use Rattle.std.specs.Prelude.{IsTrue}
use Rattle.volume.specs.Reading.{is_inode}
use Rattle.block_store.proofs.Turns.{turns_as}
use Rattle.inode.proofs.Saved.{saved}
use Rattle.inode.proofs.inode_table.store.Goals as goal

pub returns-clause-turns : goal.returns-clause-turns
returns-clause-turns g c =
    let p = c.place_of-place in
    let is : IsTrue (is_inode c.args.geometry.now c.args.number) = sym c.if-not-has_number.ensures in
    let many : length c.encode-bytes.result ≡ 64 = search rules in
    turns_as _ _ _ _ _
    (λ d e x. saved c.args.geometry.now c.requires.on.geometry d e c.args.number p.result.block p.result.at _ _ is p.ensures.block p.ensures.at many
    c.encode-bytes.ensures.reads x)
    c.in_ok-write_bytes.ensures.turns
