use Rattle.std.proofs.Common.{arith}
use Rattle.cache.specs.Slots.{held}
use Rattle.cache.proofs.Tied.{fits_past}
use Rattle.cache.proofs.Begun.{gathered_none, gathered_more, next_from}
use Rattle.cache.proofs.table.Slots.gather.Goals as goal

pub loop-past-init : goal.loop-past-init
loop-past-init c = record { within = omega arith; gathered = gathered_none (held c.args.self.now.items.items) c.args.block c.args.size _; from = omega arith }

pub copy-requires-clause-within : goal.copy-requires-clause-within
copy-requires-clause-within c =
    let past = fits_past c.loop-past.past c.args.count c.args.size c.loop-past-test.true in
    let all = c.requires.fits in
    let at = c.loop-past.invariant.from in
    omega (arith, past, all, at)

pub loop-past-preserved : goal.loop-past-preserved
loop-past-preserved c =
    let i = c.loop-past.invariant in
    let past = fits_past c.loop-past.past c.args.count c.args.size c.loop-past-test.true in
    let all = c.requires.fits in
    let at = i.from in
    record {
      within = omega (arith, c.loop-past-test.true);
      gathered = gathered_more (held c.args.self.now.items.items) c.args.block c.loop-past.past c.args.size c.loop-past.from _ _
          i.gathered i.from c.copy.ensures.copied (omega (arith, past, all, at));
      from = next_from c.loop-past.past c.args.size c.loop-past.from i.from;
    }
