use Rattle.cache.proofs.Choosing.{none_below_lowest}
use Rattle.cache.proofs.table.Slots.raise.Goals as goal

pub invariant_of-self : goal.invariant_of-self
invariant_of-self c =
    let s = c.args.self.now in
    record {
      distinct = s.distinct;
      some = s.some;
      few = s.few;
      indexed = s.indexed;
      room = s.room;
      paired = s.paired;
      ranked = s.ranked;
      skipped = none_below_lowest s.items.items c.lowest_block.result _ _ s.distinct c.lowest_block.ensures c.unwrap_or-self.ensures;
      opened = s.opened;
    }
