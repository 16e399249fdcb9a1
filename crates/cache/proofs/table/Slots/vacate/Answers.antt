use Rattle.std.proofs.Common.{◌<◌, length, refl, sym, ◌∙◌, None, arith}
use Rattle.std.proofs.lemmas.Option.{slice_get_read}
use Rattle.std.proofs.Math.Seq.{lt-length-set}
use Rattle.std.proofs.lemmas.List.{length-set}
use Rattle.cache.proofs.Held.{distinct_vacated}
use Rattle.cache.proofs.Choosing.{none_below_vacated}
use Rattle.cache.proofs.Indexed.{few_set, has_place, index_vacated}
use Rattle.cache.proofs.Turns.{rank_changed}
use Rattle.cache.proofs.Open.{open_kept}
use Rattle.cache.proofs.table.Slots.vacate.Goals as goal

pub remove-requires : goal.remove-requires
remove-requires c =
    let s = c.args.self.now in
    let ok = s.items.ok in
    let lt : c.args.at < length s.items.items = omega arith in
    let at = slice_get_read s.items.items _ c.args.at c.index_mut-slot.result.now refl lt c.index_mut-slot.ensures.value in
    has_place s.index.entries.items s.items.items c.args.at c.in-Some.block c.index_mut-slot.result.now s.indexed at c.in-Some.is

pub invariant_of-self-2 : goal.invariant_of-self-2
invariant_of-self-2 c =
    let s = c.args.self.now in
    let ok = s.items.ok in
    let lt : c.args.at < length s.items.items = omega arith in
    let at = slice_get_read s.items.items _ c.args.at c.index_mut-slot.result.now refl lt c.index_mut-slot.ensures.value in
    let e = c.remove.ensures in
    record {
      distinct = distinct_vacated s.items.items c.args.at c.index_mut-slot.result.now _ s.distinct at refl;
      some = lt-length-set s.items.items c.args.at _ s.some;
      few = few_set s.items.items c.args.at _ s.few;
      indexed = index_vacated s.index.entries.items c.remove.new.self.entries.items s.items.items c.args.at c.in-Some.block c.index_mut-slot.result.now _
          s.indexed at c.in-Some.is refl e.this e.others e.count;
      room = let n = length-set s.items.items c.args.at (record c.index_mut-slot.result.now { block = None }) in omega (arith, e.room, s.room, n);
      paired = s.paired ∙ sym (length-set s.items.items c.args.at _);
      ranked = rank_changed s.items.items s.uses.numbers.items s.winners.keys.items _ c.args.at _ c.number.result c.index_mut-slot.result.now _ s.ranked at
          c.number.ensures.number c.eviction_rank-key.ensures c.set.ensures;
      skipped = none_below_vacated s.items.items c.args.at s.search_from c.index_mut-slot.result.now _ at refl s.skipped;
      opened = open_kept s.items.items c.args.at _ _ c.index_mut-slot.result.now _ at refl s.opened;
    }

pub returns-clause-set : goal.returns-clause-set
returns-clause-set c =
    let ok = c.args.self.now.items.ok in
    let lt : c.args.at < length c.args.self.now.items.items = omega arith in
    let at = slice_get_read c.args.self.now.items.items _ c.args.at c.index_mut-slot.result.now refl lt c.index_mut-slot.ensures.value in
    record { slot = c.index_mut-slot.result.now; is = at; all = refl }
