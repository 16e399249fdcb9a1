use Rattle.fuse.proofs.ReplyLaws.{dirent_length}
use Rattle.fuse.proofs.entries.ReaddirEntry.len.Goals as goal

pub returns : goal.returns
returns c = dirent_length c.args.self.now c.zeros_behind.result.now c.zeros_behind.ensures
