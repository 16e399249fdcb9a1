use Rattle.std.proofs.Common.{subst, arith, ◌≡◌}
use Rattle.volume.specs.Nodes.{file_byte}
use Rattle.image.specs.Contents.{contents}
use Rattle.fsck.proofs.ShortEntries.{IsWide, wide_begins, wide_more, wide_is}
use Rattle.fsck.proofs.entries.widened.Goals as goal

pub loop-a-init : goal.loop-a-init
loop-a-init c = wide_begins c.raw_entry-raw.result.now

pub loop-a-preserved : goal.loop-a-preserved
loop-a-preserved c = wide_more c.raw_entry-raw.result.now c.loop-a.wide c.loop-a.a (omega arith) c.loop-a.invariant

pub returns : goal.returns
returns c =
    let all : c.loop-a.a ≡ 14 = omega arith in
    wide_is (file_byte c.args.image.now.geometry (contents c.args.image.now) c.args.inode.now) c.args.number
    c.raw_entry-raw.result.now c.loop-a.wide
    c.raw_entry-raw.ensures.bytes (subst (IsWide c.raw_entry-raw.result.now c.loop-a.wide) all c.loop-a.invariant)
