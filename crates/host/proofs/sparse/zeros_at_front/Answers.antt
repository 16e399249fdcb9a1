use Rattle.std.proofs.Common.{◌+◌, ◌≤◌, length, arith}
use Rattle.host.proofs.Zeros.{zeros_next}
use Rattle.host.proofs.sparse.zeros_at_front.Goals as goal

pub loop-at-preserved : goal.loop-at-preserved
loop-at-preserved c =
    let within : c.loop-at.at + c.min.result ≤ length c.args.bytes.now = omega (arith, c.min.ensures, c.loop-at.invariant.0) in
    (within, zeros_next _ _ _ _ (omega arith) within c.loop-at.invariant.1 (c.is_zero.ensures.0 c.if-not-is_zero.false))
