use Rattle.std.proofs.Common.{◌≡◌, ◌≤◌}
use Rattle.cache.specs.Slots.{held}
use Rattle.cache.specs.Edits.{AreBegun, Leaves}
use Rattle.cache.proofs.table.Slots.set_writing.Given as goal

abbrev pub invariant-loop-past : goal.invariant-loop-past
invariant-loop-past l = record {
  within : l.past ≤ l.count;
  begun : AreBegun l.block l.past l.ticket (held l.initial.self.items.items) (held l.self.items.items);
  leaves : Leaves l.initial.self.items.items l.self.items.items;
  uses : l.self.uses ≡ l.initial.self.uses;
}
