use Rattle.std.proofs.Common.{refl, arith, ◌∙◌}
use Rattle.cache.specs.Slots.{held}
use Rattle.cache.proofs.Edits.{leaves_none, leaves_then}
use Rattle.cache.proofs.Begun.{begun_none, begun_set, set_leaves}
use Rattle.cache.proofs.table.Slots.set_writing.Goals as goal

pub loop-past-init : goal.loop-past-init
loop-past-init c = record {
  within = omega arith;
  begun = begun_none (held c.args.self.now.items.items) c.args.block c.args.ticket;
  leaves = leaves_none _;
  uses = refl;
}

pub loop-past-preserved : goal.loop-past-preserved
loop-past-preserved c =
    let i = c.loop-past.invariant in
    let items = c.loop-past.self.items.items in
    let here = c.dirty_at-at.ensures in
    record {
      within = omega (arith, c.loop-past-test.true);
      begun = begun_set (held c.args.self.now.items.items) items _ c.args.block c.loop-past.past c.args.ticket c.dirty_at-at.result c.loop-past.self.distinct
          i.begun (c.requires.dirty c.loop-past.past c.loop-past-test.true) here c.set_state.ensures.set;
      leaves = leaves_then _ _ _ i.leaves
          (set_leaves items _ _ c.args.ticket c.dirty_at-at.result c.loop-past.self.distinct here c.set_state.ensures.set);
      uses = c.set_state.ensures.uses ∙ i.uses;
    }
