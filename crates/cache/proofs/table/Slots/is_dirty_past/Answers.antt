use Rattle.std.proofs.Common.{rules, ◌≡◌, ◌+◌, sym, ap, ◌∙◌}
use Rattle.cache.specs.Slots.{held}
use Rattle.cache.proofs.Begun.{at_held, dirty_if, end_if}
use Rattle.cache.proofs.table.Slots.is_dirty_past.Goals as goal

pub returns-in-Some-find-clause-dirty : goal.returns-in-Some-find-clause-dirty
returns-in-Some-find-clause-dirty c =
    let s = c.args.self.now in
    let next : c.in-Some.next ≡ c.args.block + c.args.past = search rules in
    dirty_if (held s.items.items (c.args.block + c.args.past)) c.get.result.now c.is_dirty.result
    (ap (held s.items.items) (sym next) ∙ at_held s.items.items c.in-Some-find.at c.in-Some.next c.get.result.now s.distinct c.in-Some-find.ensures.place c.get.ensures)
    c.is_dirty.ensures

pub returns-in-Some-find-clause-end : goal.returns-in-Some-find-clause-end
returns-in-Some-find-clause-end c =
    let s = c.args.self.now in
    let next : c.in-Some.next ≡ c.args.block + c.args.past = search rules in
    end_if (held s.items.items) (c.args.block + c.args.past) c.get.result.now c.is_dirty.result
    (ap (held s.items.items) (sym next) ∙ at_held s.items.items c.in-Some-find.at c.in-Some.next c.get.result.now s.distinct c.in-Some-find.ensures.place c.get.ensures)
    c.is_dirty.ensures
