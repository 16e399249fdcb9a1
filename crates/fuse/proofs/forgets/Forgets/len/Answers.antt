use Rattle.std.proofs.Common.{sym}
use Rattle.fuse.proofs.ForgetLaws.{count_is}
use Rattle.fuse.proofs.forgets.Forgets.len.Goals as goal

pub returns : goal.returns
returns c = sym (count_is c.args.self.now.count c.args.self.now.bytes.now)
