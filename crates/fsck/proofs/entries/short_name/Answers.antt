use Rattle.std.proofs.Common.{arith}
use Rattle.volume.specs.Nodes.{file_byte}
use Rattle.image.specs.Contents.{contents}
use Rattle.fsck.proofs.ShortEntries.{name_found, name_whole}
use Rattle.fsck.proofs.entries.short_name.Goals as goal

pub returns-then-byte-eq0 : goal.returns-then-byte-eq0
returns-then-byte-eq0 c =
    let f = file_byte c.args.image.now.geometry (contents c.args.image.now) c.args.inode.now in
    name_found f c.args.number c.raw_entry.result.now c.raw_entry.ensures.len c.raw_entry.ensures.bytes c.loop-a.a c.loop-a-test.true
    c.if-byte-eq0.true c.loop-a.invariant

pub returns : goal.returns
returns c =
    let f = file_byte c.args.image.now.geometry (contents c.args.image.now) c.args.inode.now in
    name_whole f c.args.number c.raw_entry.result.now c.raw_entry.ensures.len c.raw_entry.ensures.bytes c.loop-a.a (omega arith)
    c.loop-a.invariant
