use Rattle.std.proofs.Common.{arith}
use Rattle.trace_digest.proofs.HeardLaws.{has_place}
use Rattle.trace_digest.proofs.TraceDigest.issued.Goals as goal

pub returns-else-len-lt-MOST_OPEN : goal.returns-else-len-lt-MOST_OPEN
returns-else-len-lt-MOST_OPEN c = λ marks to may is.
    let few = has_place c.args.self.now marks c.args.request.now to is may c.if-request-self.false in
    absurd (omega (arith, few, c.if-len-lt-MOST_OPEN.false, c.len.ensures))
