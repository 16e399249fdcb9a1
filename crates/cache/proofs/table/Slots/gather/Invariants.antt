use Rattle.std.proofs.Common.{◌≡◌, ◌*◌, ◌≤◌}
use Rattle.cache.specs.Slots.{held}
use Rattle.cache.specs.Runs.{AreGathered}
use Rattle.cache.proofs.table.Slots.gather.Given as goal

abbrev pub invariant-loop-past : goal.invariant-loop-past
invariant-loop-past l = record {
  within : l.past ≤ l.count;
  gathered : AreGathered (held l.self.items.items) l.block l.past l.size l.into;
  from : l.from ≡ l.past * l.size;
}
