use Rattle.std.proofs.Common.{◌≡◌, take}
use Rattle.changes.specs.Units.{marked}
use Rattle.changes.proofs.Marks.numbers.Given as goal

abbrev pub invariant-loop-number : goal.invariant-loop-number
invariant-loop-number l = l.numbers.items ≡ marked (take l.number l.self)
