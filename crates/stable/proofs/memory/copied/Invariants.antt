use Rattle.std.proofs.Common.{◌≡◌, take}
use Rattle.stable.proofs.memory.copied.Given as goal

abbrev pub invariant-loop-unit : goal.invariant-loop-unit
invariant-loop-unit l = l.copy.items ≡ take l.unit-index l.units
