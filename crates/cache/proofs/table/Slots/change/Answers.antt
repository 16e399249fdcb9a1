use Rattle.std.proofs.Common.{◌<◌, length, refl, sym, ap, ◌∙◌, arith}
use Rattle.std.proofs.lemmas.Option.{slice_get_read}
use Rattle.std.proofs.Math.Seq.{lt-length-set}
use Rattle.std.proofs.lemmas.List.{length-set}
use Rattle.cache.specs.Slots.{lower_of}
use Rattle.cache.proofs.Held.{distinct_kept}
use Rattle.cache.proofs.Choosing.{none_below_changed}
use Rattle.cache.proofs.Indexed.{few_set, index_kept, room_set}
use Rattle.cache.proofs.Turns.{rank_changed}
use Rattle.cache.proofs.Open.{open_changed}
use Rattle.cache.proofs.table.Slots.change.Goals as goal

pub invariant_of-self : goal.invariant_of-self
invariant_of-self c =
    let s = c.args.self.now in
    let items = s.items.items in
    let ok = s.items.ok in
    let lt : c.args.at < length items = omega arith in
    let at = slice_get_read items _ c.args.at c.index_mut-slot.result.now refl lt c.index_mut-slot.ensures.value in
    record {
      distinct = distinct_kept items c.args.at c.index_mut-slot.result.now _ s.distinct at c.change.ensures.block;
      some = lt-length-set items c.args.at _ s.some;
      few = few_set items c.args.at _ s.few;
      indexed = index_kept _ items c.args.at c.index_mut-slot.result.now _ s.indexed at c.change.ensures.block;
      room = room_set items c.args.at _ _ s.room;
      paired = s.paired ∙ sym (length-set items c.args.at _);
      ranked = rank_changed items s.uses.numbers.items s.winners.keys.items _ c.args.at _ c.number.result c.index_mut-slot.result.now _ s.ranked at
          c.number.ensures.number c.eviction_rank-key.ensures c.set.ensures;
      skipped = none_below_changed items c.args.at s.search_from _ c.index_mut-slot.result.now _ at
          (c.lowered-self.ensures ∙ ap (lower_of s.search_from) c.clean_block.ensures)
          c.change.ensures.block c.change.ensures.state s.skipped;
      opened = open_changed items c.args.at _ _ c.index_mut-slot.result.now _ at c.change.ensures.state s.opened;
    }

pub returns-clause-changed : goal.returns-clause-changed
returns-clause-changed c =
    let ok = c.args.self.now.items.ok in
    let lt : c.args.at < length c.args.self.now.items.items = omega arith in
    let at = slice_get_read c.args.self.now.items.items _ c.args.at c.index_mut-slot.result.now refl lt c.index_mut-slot.ensures.value in
    record {
      slot = c.index_mut-slot.result.now;
      after = c.change.new.self;
      is = at;
      all = refl;
      block = c.change.ensures.block;
      state = c.change.ensures.state;
      bytes_are = c.change.ensures.bytes;
    }
