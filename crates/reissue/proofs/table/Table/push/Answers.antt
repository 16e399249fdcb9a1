use Rattle.reissue.proofs.Closing.{tickets_push}
use Rattle.reissue.proofs.table.Table.push.Goals as goal

pub invariant_of-self-clause-numbers : goal.invariant_of-self-clause-numbers
invariant_of-self-clause-numbers c =
    rw c.push.ensures (tickets_push c.args.self.now.ids c.args.self.now.pending c.args.self.now.hand.value c.args.self.now.numbers c.requires.fresh c.requires.ticket c.requires.next)
