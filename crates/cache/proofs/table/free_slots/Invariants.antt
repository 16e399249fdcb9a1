use Rattle.std.proofs.Common.{◌≡◌, length}
use Rattle.cache.specs.Slots.{AllFree}
use Rattle.cache.proofs.table.free_slots.Given as goal

abbrev pub invariant-free : goal.invariant-free
invariant-free l = record {
  free : AllFree l.items.items;
  count : length l.items.items ≡ l.counter;
}
