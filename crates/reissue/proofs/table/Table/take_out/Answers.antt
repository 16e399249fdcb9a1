use Rattle.std.proofs.Common.{◌<◌, length, arith}
use Rattle.reissue.proofs.Closing.{tickets_gone}
use Rattle.reissue.proofs.table.Table.take_out.Goals as goal

pub invariant_of-self-clause-numbers : goal.invariant_of-self-clause-numbers
invariant_of-self-clause-numbers c =
    let lt : c.args.at < length c.args.self.now.pending = omega (arith, c.requires, c.args.self.now.within) in
    rw c.remove.ensures.items (tickets_gone c.args.self.now.ids c.args.self.now.pending c.args.at lt c.args.self.now.numbers)
