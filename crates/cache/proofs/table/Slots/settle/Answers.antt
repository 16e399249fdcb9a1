use Rattle.std.proofs.Common.{refl, ◌∙◌, arith}
use Rattle.cache.proofs.Settled.{settling_more, settled_written, settled_stays}
use Rattle.cache.proofs.Open.{settling_begun, settling_ended, open_below_none, open_below_more, open_left}
use Rattle.cache.proofs.table.Slots.settle.Goals as goal

pub loop-at-init : goal.loop-at-init
loop-at-init c =
    let s = c.args.self.now in
    record {
      settling = settling_begun c.args.ticket s.items.items s.open_from s.open_to s.opened;
      left = open_below_none s.items.items s.open_from _ s.open_to s.opened;
      uses = refl;
      spare = refl;
    }

pub loop-at-preserved : goal.loop-at-preserved
loop-at-preserved c =
    let i = c.loop-at.invariant in
    record {
      settling = settling_more c.args.ticket _ _ _ c.loop-at.at i.settling c.settle_at.ensures.set;
      left = open_below_more c.args.ticket _ _ c.loop-at.at _ _ _ _ _ c.settle_at.ensures.set c.get.ensures
          c.widen.ensures.from c.widen.ensures.to i.left;
      uses = c.settle_at.ensures.uses ∙ i.uses;
      spare = c.settle_at.ensures.spare ∙ i.spare;
    }

pub invariant_of-self : goal.invariant_of-self
invariant_of-self c =
    let i = c.loop-at.invariant in
    let old = c.args.self.now in
    let s = c.loop-at.self in
    record {
      distinct = s.distinct;
      some = s.some;
      few = s.few;
      indexed = s.indexed;
      room = s.room;
      paired = s.paired;
      ranked = s.ranked;
      skipped = s.skipped;
      opened = open_left c.args.ticket old.items.items s.items.items old.open_from old.open_to c.loop-at.at _ _ old.opened
          (omega (arith, c.loop-at-test.false)) i.settling i.left;
    }

pub returns-clause-written : goal.returns-clause-written
returns-clause-written c =
    let i = c.loop-at.invariant in
    let s = c.args.self.now in
    settled_written c.args.ticket s.items.items _ c.loop-at.self.distinct
    (settling_ended c.args.ticket s.items.items _ s.open_from s.open_to c.loop-at.at s.opened
    (omega (arith, c.loop-at-test.false)) i.settling)

pub returns-clause-stay : goal.returns-clause-stay
returns-clause-stay c =
    let i = c.loop-at.invariant in
    let s = c.args.self.now in
    settled_stays c.args.ticket s _ i.uses
    (settling_ended c.args.ticket s.items.items _ s.open_from s.open_to c.loop-at.at s.opened
    (omega (arith, c.loop-at-test.false)) i.settling)
