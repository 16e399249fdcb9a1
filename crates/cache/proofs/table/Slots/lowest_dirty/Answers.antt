use Rattle.cache.proofs.Choosing.{lowest_of_next}
use Rattle.cache.proofs.table.Slots.lowest_dirty.Goals as goal

pub returns : goal.returns
returns c =
    let s = c.args.self.now in
    lowest_of_next s.items.items c.next_dirty.result s.search_from s.skipped c.next_dirty.ensures
