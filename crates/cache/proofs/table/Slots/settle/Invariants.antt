use Rattle.std.proofs.Common.{◌≡◌}
use Rattle.cache.proofs.Settled.{Settling}
use Rattle.cache.proofs.Open.{OpenBelow}
use Rattle.cache.proofs.table.Slots.settle.Given as goal

abbrev pub invariant-loop-at : goal.invariant-loop-at
invariant-loop-at l = record {
  settling : Settling l.ticket l.initial.self.items.items l.self.items.items l.at;
  left : OpenBelow l.self.items.items l.at l.from l.to;
  uses : l.self.uses ≡ l.initial.self.uses;
  spare : l.self.spare ≡ l.initial.self.spare;
}
