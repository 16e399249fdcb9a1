use Rattle.std.proofs.Common.{List, ◌<◌, length, refl, sym, ap, subst, ◌∙◌, arith}
use Rattle.std.proofs.lemmas.Option.{slice_get_read}
use Rattle.std.proofs.Math.Seq.{lt-length-set}
use Rattle.std.proofs.lemmas.List.{length-set}
use Rattle.cache.specs.Slots.{lower_of}
use Rattle.cache.proofs.Held.{distinct_kept}
use Rattle.cache.proofs.Choosing.{none_below_changed}
use Rattle.cache.proofs.Indexed.{few_set, index_kept, room_set}
use Rattle.cache.specs.declared.slot.Slot.{Slot}
use Rattle.cache.specs.Order.{IsRanked, IsRankedBut}
use Rattle.cache.proofs.Turns.{but_set}
use Rattle.cache.proofs.Open.{open_changed}
use Rattle.cache.proofs.table.Slots.blank.Goals as goal

pub use_now-requires-clause-others : goal.use_now-requires-clause-others
use_now-requires-clause-others c =
    let s = c.args.self.now in
    subst (λ (l : List Slot). IsRankedBut c.args.at l s.uses.numbers.items s.winners.keys.items) (sym c.deref.ensures.value)
    (but_set s.items.items s.uses.numbers.items s.winners.keys.items c.args.at _ s.ranked)

pub invariant_of-self : goal.invariant_of-self
invariant_of-self c =
    let s = c.args.self.now in
    let items = s.items.items in
    let ok = s.items.ok in
    let lt : c.args.at < length items = omega arith in
    let at = slice_get_read items _ c.args.at c.index_mut-slot.result.now refl lt c.index_mut-slot.ensures.value in
    record {
      distinct = distinct_kept items c.args.at c.index_mut-slot.result.now _ s.distinct at c.clear.ensures.block;
      some = lt-length-set items c.args.at _ s.some;
      few = few_set items c.args.at _ s.few;
      indexed = index_kept _ items c.args.at c.index_mut-slot.result.now _ s.indexed at c.clear.ensures.block;
      room = room_set items c.args.at _ _ s.room;
      paired = c.use_now.ensures.used.count ∙ s.paired ∙ sym (length-set items c.args.at _);
      ranked = subst (λ (l : List Slot). IsRanked l c.use_now.new.uses.numbers.items c.use_now.new.winners.keys.items) c.deref.ensures.value
          c.use_now.ensures.ranked;
      skipped = none_below_changed items c.args.at s.search_from _ c.index_mut-slot.result.now _ at
          (c.lowered-self.ensures ∙ ap (lower_of s.search_from) c.clean_block.ensures)
          c.clear.ensures.block c.clear.ensures.state s.skipped;
      opened = open_changed items c.args.at _ _ c.index_mut-slot.result.now _ at c.clear.ensures.state s.opened;
    }

pub returns-clause-blanked : goal.returns-clause-blanked
returns-clause-blanked c =
    let ok = c.args.self.now.items.ok in
    let lt : c.args.at < length c.args.self.now.items.items = omega arith in
    let at = slice_get_read c.args.self.now.items.items _ c.args.at c.index_mut-slot.result.now refl lt c.index_mut-slot.ensures.value in
    let e = c.clear.ensures in
    record { slot = c.index_mut-slot.result.now; after = c.clear.new.self; is = at; all = refl; block = e.block; state = e.state; zero = e.bytes }
