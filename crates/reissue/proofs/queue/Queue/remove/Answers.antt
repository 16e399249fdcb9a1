use Rattle.std.proofs.Common.{rules, arith, length-append}
use Rattle.std.specs.Global.{Box}
use Rattle.reissue.specs.declared.pending.Pending.{Pending}
use Rattle.reissue.proofs.Places.{place_below, entry_at, held_at, entries_remove, holds_remove, length_rest}
use Rattle.reissue.proofs.queue.Queue.remove.Goals as goal

pub remove-key-requires : goal.remove-key-requires
remove-key-requires c =
    let lt = place_below c.self.inside.entries c.self.inside.keys.items _ c.args.at c.self.invariant.holds c.self.view_is c.requires in
    omega (arith, lt, c.self.inside.keys.ok)

pub remove-entry-requires : goal.remove-entry-requires
remove-entry-requires c =
    let lt = place_below c.self.inside.entries c.self.inside.keys.items _ c.args.at c.self.invariant.holds c.self.view_is c.requires in
    let e = held_at c.self.inside.entries c.self.inside.keys.items c.args.at c.remove-key.result c.self.invariant.holds lt c.remove-key.ensures.value in
    rw e.1 (search rules)

pub push_reserved-requires : goal.push_reserved-requires
push_reserved-requires c =
    let lt = place_below c.self.inside.entries c.self.inside.keys.items _ c.args.at c.self.invariant.holds c.self.view_is c.requires in
    omega (arith, lt, c.self.invariant.rooms, c.self.invariant.spare_room, c.self.inside.spare.ok)

pub invariant_of-self : goal.invariant_of-self
invariant_of-self c =
    let k = c.remove-key.ensures in
    let r = c.remove-entry.ensures in
    let lt = place_below c.self.inside.entries c.self.inside.keys.items _ c.args.at c.self.invariant.holds c.self.view_is c.requires in
    let one = length_rest c.self.inside.keys.items c.args.at lt in
    rw k.items (record {
      holds = holds_remove c.self.inside.entries _ c.self.inside.keys.items c.args.at c.remove-key.result c.self.invariant.holds lt k.value r.updates;
      same = omega (arith, r.len, c.self.invariant.same, one);
      slab_room = rw r.capacity c.self.invariant.slab_room;
      key_room = rw k.capacity c.self.invariant.key_room;
      rooms = rw c.push_reserved.ensures.items (omega (arith, one, c.self.invariant.rooms, length-append {A = Box Pending}));
      spare_room = rw c.push_reserved.ensures.capacity c.self.invariant.spare_room;
    })

pub returns-clause-items : goal.returns-clause-items
returns-clause-items c =
    let k = c.remove-key.ensures in
    let r = c.remove-entry.ensures in
    let lt = place_below c.self.inside.entries c.self.inside.keys.items _ c.args.at c.self.invariant.holds c.self.view_is c.requires in
    rw (k.items, ← c.self.view_is)
    (entries_remove c.self.inside.entries _ c.self.inside.keys.items c.args.at c.remove-key.result c.self.invariant.holds lt k.value r.updates)

pub returns-clause-value : goal.returns-clause-value
returns-clause-value c =
    let k = c.remove-key.ensures in
    let r = c.remove-entry.ensures in
    let lt = place_below c.self.inside.entries c.self.inside.keys.items _ c.args.at c.self.invariant.holds c.self.view_is c.requires in
    let e = entry_at c.self.inside.entries c.self.inside.keys.items c.args.at c.remove-key.result c.remove-entry.result c.self.invariant.holds lt k.value r.value in
    rw (c.replace.ensures.after, ← c.self.view_is) e
