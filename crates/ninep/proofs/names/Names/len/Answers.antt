use Rattle.std.proofs.Common.{sym}
use Rattle.ninep.proofs.TextLaws.{count_is}
use Rattle.ninep.proofs.names.Names.len.Goals as goal

pub returns : goal.returns
returns c = sym (count_is c.args.self.now.count c.args.self.now.bytes.now c.args.self.now.whole)
