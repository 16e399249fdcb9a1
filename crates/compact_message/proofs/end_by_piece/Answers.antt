use Rattle.std.proofs.Common.{arith}
use Rattle.compact_message.proofs.Zeros.{whole, shorter_by_piece}
use Rattle.compact_message.proofs.end_by_piece.Goals as goal

pub loop-end-init : goal.loop-end-init
loop-end-init c = (omega arith, whole c.args.bytes.now c.told-bytes)

pub loop-end-preserved : goal.loop-end-preserved
loop-end-preserved c = (
  omega arith,
  shorter_by_piece _ _ c.loop-end.end c.args.bytes.now (omega arith) (omega arith) (omega arith) (c.is_zero.ensures c.if-is_zero.true)
      c.loop-end.invariant.1,
)
