use Rattle.std.proofs.Common.{◌≡◌, length, rules}
use Rattle.std.specs.Prelude.{OnOk}
use Rattle.tree.specs.Names.{with_name}
use Rattle.volume.specs.Reading.{Disk}
use Rattle.volume.specs.Pieces.{pieces}
use Rattle.volume.specs.Nodes.{entry_inode, entry_name, file_byte}
use Rattle.block_store.proofs.Turns.{on_ok, reads_as}
use Rattle.calls_files.proofs.Gathering.{entry_put}
use Rattle.calls_files.proofs.listing.gather.put_entry.Goals as goal

pub returns-clause-reads : goal.returns-clause-reads
returns-clause-reads g c =
    let a = c.args in
    let long : length c.in_ok-bytes.bytes ≡ 64 = search rules in
    reads_as _ _ _ _
    (λ (d : Disk). OnOk c.put.result (c.put.new.self ≡ with_name a.names.now (entry_name (file_byte a.geometry.now (pieces a.geometry.now d) a.inode.now) a.k) (entry_inode (file_byte a.geometry.now (pieces a.geometry.now d) a.inode.now) a.k)))
    (λ d p. on_ok _ _ _
    (entry_put (file_byte a.geometry.now (pieces a.geometry.now d) a.inode.now) a.k c.in_ok-bytes.bytes long p c.entry_name.result.now c.entry_inode-number.result a.names.now c.put.new.self
    c.entry_name.ensures c.entry_inode-number.ensures) c.put.ensures)
    c.in_ok-bytes.ensures.reads
