use Rattle.std.proofs.Common.{List, ℕ, sym, ap, subst, ◌∙◌, arith}
use Rattle.std.proofs.Math.Seq.{lt-length-set}
use Rattle.std.proofs.lemmas.List.{length-set}
use Rattle.cache.specs.Uses.{IsUsedLast}
use Rattle.cache.specs.Slots.{lower_of}
use Rattle.cache.proofs.Held.{distinct_filled}
use Rattle.cache.proofs.Choosing.{none_below_lowered}
use Rattle.cache.proofs.Filling.{free_at, vacated_none}
use Rattle.cache.proofs.Indexed.{few_set, has_no_place, count_free, index_filled, set_again}
use Rattle.cache.specs.declared.slot.Slot.{Slot}
use Rattle.cache.specs.Order.{IsRanked, IsRankedBut}
use Rattle.cache.proofs.Turns.{but_set}
use Rattle.cache.proofs.Open.{open_widened}
use Rattle.cache.proofs.table.Slots.fill.Goals as goal

pub insert-requires-clause-missing : goal.insert-requires-clause-missing
insert-requires-clause-missing c =
    let s = c.args.self.now in
    let v = c.vacate.new.self in
    let e = c.vacate.ensures.set in
    has_no_place v.index.entries.items v.items.items c.args.block v.indexed
    (vacated_none s.items.items v.items.items c.args.at e.slot s.distinct e.is e c.args.block c.requires.free)

pub insert-requires-clause-room : goal.insert-requires-clause-room
insert-requires-clause-room c =
    let v = c.vacate.new.self in
    let f = free_at c.args.self.now.items.items v.items.items c.args.at c.vacate.ensures.set in
    let less = count_free v.items.items c.args.at f.slot f.is f.none in
    omega (arith, less, v.indexed.count, v.room)

pub use_now-requires-clause-others : goal.use_now-requires-clause-others
use_now-requires-clause-others c =
    let v = c.vacate.new.self in
    subst (λ (l : List Slot). IsRankedBut c.args.at l v.uses.numbers.items v.winners.keys.items) (sym c.deref.ensures.value)
    (but_set v.items.items v.uses.numbers.items v.winners.keys.items c.args.at _ v.ranked)

pub invariant_of-self : goal.invariant_of-self
invariant_of-self c =
    let s = c.args.self.now in
    let v = c.vacate.new.self in
    let e = c.vacate.ensures.set in
    let f = free_at s.items.items v.items.items c.args.at e in
    let free = vacated_none s.items.items v.items.items c.args.at e.slot s.distinct e.is e c.args.block c.requires.free in
    let i = c.insert.ensures in
    record {
      distinct = distinct_filled v.items.items c.args.at c.args.block f.slot _ v.distinct f.is c.hold.ensures.block free;
      some = lt-length-set v.items.items c.args.at _ v.some;
      few = few_set v.items.items c.args.at _ v.few;
      indexed = index_filled v.index.entries.items c.insert.new.self.entries.items v.items.items c.args.at c.args.block f.slot _ v.indexed f.is f.none
          c.hold.ensures.block free i.this i.others i.count;
      room = let n = length-set v.items.items c.args.at c.hold.new.self in omega (arith, i.room, v.room, n);
      paired = c.use_now.ensures.used.count ∙ v.paired ∙ sym (length-set v.items.items c.args.at _);
      ranked = subst (λ (l : List Slot). IsRanked l c.use_now.new.uses.numbers.items c.use_now.new.winners.keys.items) c.deref.ensures.value
          c.use_now.ensures.ranked;
      skipped = none_below_lowered v.items.items c.args.at v.search_from _ f.slot _ f.is
          (c.lowered-self.ensures ∙ ap (lower_of v.search_from) c.dirty_block.ensures) v.skipped;
      opened = open_widened v.items.items c.args.at _ _ _ _ f.slot _ f.is c.widen.ensures.from c.widen.ensures.to v.opened;
    }

pub returns-clause-filled : goal.returns-clause-filled
returns-clause-filled c =
    let s = c.args.self.now in
    let v = c.vacate.new.self in
    let e = c.vacate.ensures.set in
    let h = c.hold.ensures in
    record {
      slot = e.slot;
      after = c.hold.new.self;
      is = e.is;
      all = set_again s.items.items v.items.items c.args.at _ c.hold.new.self e.all;
      block_is = h.block;
      bytes_are = ap (λ b. b.value) (h.bytes ∙ c.vacate.ensures.spare);
      state_is = h.state;
    }

pub returns-clause-used : goal.returns-clause-used
returns-clause-used c =
    subst (λ (l : List ℕ). IsUsedLast l c.use_now.new.uses.numbers.items c.args.at) (ap (λ u. u.numbers.items) c.vacate.ensures.uses) c.use_now.ensures.used
