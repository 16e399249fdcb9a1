use Rattle.std.proofs.Common.{◌<◌, ◌+◌, ◌-◌, ◌/◌, length, refl, arith}
use Rattle.std.proofs.lemmas.Option.{slice_get_read}
use Rattle.cache.proofs.Entries.{low_moved, high_moved}
use Rattle.cache.proofs.Halves.{left_half}
use Rattle.cache.proofs.index.Index.look.Goals as goal

pub halves-preserved-then-entry-block-2 : goal.halves-preserved-then-entry-block-2
halves-preserved-then-entry-block-2 c =
    let es = c.args.self.now.entries.items in
    let i = c.halves.invariant in
    let middle = c.halves.low + (c.halves.high - c.halves.low) / 2 in
    let some = c.halves-test.true in
    let lt : middle < length es = omega (arith, some, i.order, i.within) in
    let is = slice_get_read es _ middle c.index-entry.result.now refl lt c.index-entry.ensures in
    record {
      order = omega (arith, some);
      within = i.within;
      below = low_moved es middle c.args.block c.index-entry.result.now c.args.self.now.rising is c.if-entry-block-2.true;
      above = i.above;
      left = λ k few. left_half (c.halves.high - c.halves.low) _ _ _ _ k (i.left k few) (omega (arith, some)) (omega (arith, some)) (omega (arith, c.tick.ensures));
    }

pub halves-preserved : goal.halves-preserved
halves-preserved c =
    let es = c.args.self.now.entries.items in
    let i = c.halves.invariant in
    let middle = c.halves.low + (c.halves.high - c.halves.low) / 2 in
    let some = c.halves-test.true in
    let lt : middle < length es = omega (arith, some, i.order, i.within) in
    let is = slice_get_read es _ middle c.index-entry.result.now refl lt c.index-entry.ensures in
    record {
      order = omega (arith, some);
      within = omega (arith, some, i.within);
      below = i.below;
      above = high_moved es middle c.args.block c.index-entry.result.now c.args.self.now.rising is (omega (arith, c.if-entry-block.false, c.if-entry-block-2.false));
      left = λ k few. left_half (c.halves.high - c.halves.low) _ _ _ _ k (i.left k few) (omega (arith, some)) (omega (arith, some)) (omega (arith, c.tick.ensures));
    }
