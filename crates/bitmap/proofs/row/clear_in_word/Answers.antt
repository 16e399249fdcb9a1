use Rattle.std.proofs.Common.{arith}
use Rattle.bitmap.proofs.Words.{run_set, run_ends}
use Rattle.bitmap.proofs.row.clear_in_word.Goals as goal

pub returns-then-bit-end : goal.returns-then-bit-end
returns-then-bit-end c = (
  omega arith,
  c.if-bit-end.true,
  run_ends c.args.word c.args.from c.trailing_ones.result (omega arith) c.trailing_ones.ensures (omega arith),
  run_set c.args.word c.args.from c.trailing_ones.result (omega arith) c.trailing_ones.ensures,
)

pub returns-else-bit-end : goal.returns-else-bit-end
returns-else-bit-end c = λ j low high.
    run_set c.args.word c.args.from c.trailing_ones.result (omega arith) c.trailing_ones.ensures j low (omega (arith, high))
