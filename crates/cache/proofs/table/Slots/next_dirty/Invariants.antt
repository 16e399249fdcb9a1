use Rattle.cache.proofs.Choosing.{Searched}
use Rattle.cache.proofs.table.Slots.next_dirty.Given as goal

abbrev pub invariant-loop-nth : goal.invariant-loop-nth
invariant-loop-nth l = Searched l.self.index.entries.items l.self.items.items l.from l.nth
