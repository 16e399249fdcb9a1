use Rattle.std.proofs.Common.{nat_eq, sym, ap}
use Rattle.ninep.proofs.TextLaws.{count_is}
use Rattle.ninep.proofs.names.Names.is_empty.Goals as goal

pub returns : goal.returns
returns c = ap (λ n. nat_eq n 0) (sym (count_is c.args.self.now.count c.args.self.now.bytes.now c.args.self.now.whole))
