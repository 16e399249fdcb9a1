use Rattle.std.proofs.Common.{◌+◌, ◌<◌, ◌≤◌, ◌^◌}
use Rattle.cache.specs.Slots.{held}
use Rattle.cache.specs.Edits.{AreDirty}
use Rattle.cache.proofs.table.Slots.dirty_from.Given as goal

abbrev pub invariant-loop-count : goal.invariant-loop-count
invariant-loop-count l = record {
  dirty : AreDirty (held l.self.items.items) l.block l.count;
  bound : l.block + l.count ≤ 2 ^ 32;
  some : 0 < l.count;
  few : l.count ≤ l.most;
}
