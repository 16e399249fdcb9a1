use Rattle.std.proofs.Common.{◌≡◌, ◌-◌, ◌^◌, arith}
use Rattle.std.specs.Prelude.{count_ones}
use Rattle.bitmap.proofs.Words.{clear_by_ones, clear_most, opposite_ones, whole_clear}
use Rattle.bitmap.proofs.row.count_in_word.Goals as goal

pub overflow_sub-result-2 : goal.overflow_sub-result-2
overflow_sub-result-2 c = omega (
  arith,
  clear_by_ones c.args.word c.args.from c.args.end c.requires.order c.requires.some,
  clear_most c.args.word c.args.from c.args.end c.requires.order c.requires.some,
)

pub overflow_sub-result-3 : goal.overflow_sub-result-3
overflow_sub-result-3 c = omega (arith, clear_by_ones c.args.word c.args.from c.args.end c.requires.order c.requires.some)

pub returns-clause-value : goal.returns-clause-value
returns-clause-value c = omega (
  arith,
  clear_by_ones c.args.word c.args.from c.args.end c.requires.order c.requires.some,
  clear_most c.args.word c.args.from c.args.end c.requires.order c.requires.some,
)

pub returns-then-end-eq64-clause-value : goal.returns-then-end-eq64-clause-value
returns-then-end-eq64-clause-value c =
    let word = c.args.word in
    let zeros : c.count_zeros.result ≡ count_ones (2 ^ 64 - 1 - word) = c.count_zeros.ensures.value in
    omega (
      arith,
      zeros,
      opposite_ones word (omega arith),
      whole_clear word c.args.from c.args.end (omega arith) (omega arith) (omega arith),
    )
