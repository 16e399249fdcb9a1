use Rattle.std.proofs.Common.{◌≡◌, ◌≤◌, length}
use Rattle.cache.proofs.Order.{Numbered}
use Rattle.cache.proofs.uses.Uses.renumber.Given as goal

abbrev pub invariant-loop-at : goal.invariant-loop-at
invariant-loop-at l = record {
  numbers : l.self.numbers ≡ l.fn.self.numbers;
  limit : l.self.limit ≡ l.fn.self.limit;
  within : l.at ≤ length l.fn.self.numbers.items;
  numbered : Numbered l.fn.self.numbers.items l.self.spare.items l.at;
}
