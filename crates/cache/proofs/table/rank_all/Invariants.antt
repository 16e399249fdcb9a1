use Rattle.cache.proofs.Turns.{IsRankedTo}
use Rattle.cache.proofs.table.rank_all.Given as goal

abbrev pub invariant-loop-at : goal.invariant-loop-at
invariant-loop-at l = IsRankedTo l.at l.items l.uses.numbers.items l.winners.keys.items
