use Rattle.std.proofs.Common.{List, ◌∙◌, ap, arith, length-append, ℕ, ◌++◌, ◌∷◌, []}
use Rattle.reissue.specs.declared.pending.Pending.{Pending}
use Rattle.reissue.proofs.Places.{keys_below, entries_push, holds_push}
use Rattle.reissue.proofs.queue.Queue.push.Goals as goal

pub unreachable-requires : goal.unreachable-requires
unreachable-requires c =
    let few = keys_below c.self.inside.entries c.self.inside.keys.items _ 16 c.self.invariant.holds c.self.view_is c.requires in
    omega (arith, few, c.self.invariant.rooms, c.in_default.ensures.cases.0, c.self.inside.spare.ok)

pub insert_reserved-key-requires : goal.insert_reserved-key-requires
insert_reserved-key-requires c =
    let few = keys_below c.self.inside.entries c.self.inside.keys.items _ 16 c.self.invariant.holds c.self.view_is c.requires in
    omega (arith, few, c.self.invariant.same, c.self.invariant.slab_room)

pub push_reserved-requires : goal.push_reserved-requires
push_reserved-requires c =
    let few = keys_below c.self.inside.entries c.self.inside.keys.items _ 16 c.self.invariant.holds c.self.view_is c.requires in
    omega (arith, few, c.self.invariant.key_room, c.self.inside.keys.ok)

pub invariant_of-self : goal.invariant_of-self
invariant_of-self c =
    let i = c.insert_reserved-key.ensures in
    let p = c.push_reserved.ensures in
    rw p.items (record {
      holds = holds_push _ _ _ _ c.self.inside.keys.items i.was_vacant c.self.invariant.holds i.updates;
      same = omega (arith, i.len, c.self.invariant.same, length-append {A = ℕ});
      slab_room = rw i.capacity c.self.invariant.slab_room;
      key_room = rw p.capacity c.self.invariant.key_room;
      rooms = omega (arith, c.in-Some.ensures.cases, c.self.inside.spare.ok, c.pop.new.self.ok, c.self.invariant.rooms, length-append {A = ℕ});
      spare_room = rw c.pop.ensures.capacity c.self.invariant.spare_room;
    })

pub returns : goal.returns
returns c =
    let i = c.insert_reserved-key.ensures in
    let p = c.push_reserved.ensures in
    rw p.items (entries_push c.self.inside.entries _ _ _ c.self.inside.keys.items i.was_vacant c.self.invariant.holds i.updates
    ∙ rw c.replace-entry.ensures.value (ap (λ (l : List Pending). l ++ c.args.hand.now.value ∷ []) c.self.view_is))
