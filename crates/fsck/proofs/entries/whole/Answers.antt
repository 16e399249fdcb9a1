use Rattle.volume.specs.Nodes.{file_byte}
use Rattle.image.specs.Contents.{contents}
use Rattle.fsck.proofs.EntryBytes.{whole_is}
use Rattle.fsck.proofs.entries.whole.Goals as goal

pub returns : goal.returns
returns c =
    let i = c.args.image.now in
    rw c.copy_from_slice.ensures.after (whole_is (file_byte i.geometry (contents i) c.args.inode.now) c.args.number c.entry.result.now
    c.entry.ensures.len c.entry.ensures.bytes)
