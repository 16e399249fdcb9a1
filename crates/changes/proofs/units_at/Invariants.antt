use Rattle.std.proofs.Common.{◌≡◌, take, map}
use Rattle.changes.specs.Units.{unit_of}
use Rattle.changes.proofs.units_at.Given as goal

abbrev pub invariant-loop-number : goal.invariant-loop-number
invariant-loop-number l = l.units.items ≡ map (unit_of l.image) (take l.number-index l.numbers)
