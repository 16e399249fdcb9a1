use Rattle.std.proofs.Common.{arith}
use Rattle.reissue.proofs.Places.{length_entries}
use Rattle.reissue.proofs.queue.Queue.len.Goals as goal

pub returns : goal.returns
returns c =
    let e = length_entries c.self.inside.entries c.self.inside.keys.items c.self.invariant.holds in
    rw (← c.self.view_is) (omega (arith, e, c.self.inside.keys.ok))
