use Rattle.std.proofs.Common.{◌≡◌, take}
use Rattle.changes.specs.Units.{with_marks}
use Rattle.changes.proofs.Marks.mark_all.Given as goal

abbrev pub invariant-loop-number : goal.invariant-loop-number
invariant-loop-number l = l.self ≡ with_marks l.fn.self (take l.number-index l.numbers)
