use Rattle.std.proofs.Common.{◌≡◌, take}
use Rattle.changes.specs.Units.{marked}
use Rattle.shared_media.proofs.confined.marked_in.Given as goal

abbrev pub invariant-loop-unit : goal.invariant-loop-unit
invariant-loop-unit l = l.numbers.items ≡ marked (take l.unit l.marks)
