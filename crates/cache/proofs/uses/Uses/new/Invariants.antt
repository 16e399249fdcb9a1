use Rattle.std.proofs.Common.{◌≡◌, ◌≤◌, length}
use Rattle.cache.proofs.Order.{IsCounted}
use Rattle.cache.proofs.uses.Uses.new.Given as goal

abbrev pub invariant-loop-at : goal.invariant-loop-at
invariant-loop-at l = record {
  within : l.at ≤ l.count;
  all : length l.numbers.items ≡ l.count;
  counted : IsCounted l.numbers.items l.at;
}
