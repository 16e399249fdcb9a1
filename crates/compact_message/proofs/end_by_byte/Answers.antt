use Rattle.std.proofs.Common.{arith}
use Rattle.compact_message.proofs.Zeros.{shorter_by_one}
use Rattle.compact_message.proofs.end_by_byte.Goals as goal

pub loop-end-preserved : goal.loop-end-preserved
loop-end-preserved c = (
  omega arith,
  shorter_by_one _ c.loop-end.end c.args.bytes.now (omega arith) (omega arith) c.if-bytes-end-eq0.true c.loop-end.invariant.1,
)
