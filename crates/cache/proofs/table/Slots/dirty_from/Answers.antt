use Rattle.std.proofs.Common.{arith}
use Rattle.cache.specs.Slots.{held}
use Rattle.cache.proofs.Begun.{dirty_first, dirty_more}
use Rattle.cache.proofs.table.Slots.dirty_from.Goals as goal

pub loop-count-init : goal.loop-count-init
loop-count-init c = record {
  dirty = dirty_first (held c.args.self.now.items.items) c.args.block c.requires.first;
  bound = omega (arith, c.requires.bound);
  some = omega arith;
  few = omega (arith, c.requires.some);
}

pub loop-count-preserved : goal.loop-count-preserved
loop-count-preserved c =
    let i = c.loop-count.invariant in
    record {
      dirty = dirty_more (held c.args.self.now.items.items) c.args.block c.loop-count.count i.dirty c.if-not-is_dirty_past.ensures.dirty;
      bound = omega (arith, c.if-not-is_dirty_past.ensures.bound);
      some = omega arith;
      few = omega (arith, c.loop-count-test.true);
    }
