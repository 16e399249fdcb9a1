use Rattle.std.proofs.Common.{◌≡◌, ◌++◌, length}
use Rattle.redo.specs.Record.{numbers_in}
use Rattle.redo.proofs.recovering.push_numbers.Given as goal

abbrev pub invariant-loop-rest : goal.invariant-loop-rest
invariant-loop-rest l = l.numbers.items ++ numbers_in l.rest ≡ l.fn.numbers.items ++ numbers_in l.unit

abbrev pub decreases-loop-rest : goal.decreases-loop-rest
decreases-loop-rest l = length l.rest
