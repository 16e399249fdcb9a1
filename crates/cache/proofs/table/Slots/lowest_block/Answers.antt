use Rattle.cache.proofs.Begun.{lowest_block_is}
use Rattle.cache.proofs.table.Slots.lowest_block.Goals as goal

pub returns-in-Some : goal.returns-in-Some
returns-in-Some c =
    let s = c.args.self.now in
    lowest_block_is s.items.items c.in-Some.at c.get.result.now s.distinct c.in-Some.ensures c.get.ensures
