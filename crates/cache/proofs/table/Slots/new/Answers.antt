use Rattle.std.proofs.Common.{◌≡◌, List, length, sym, subst, ◌∙◌, arith}
use Rattle.cache.specs.declared.index.Entry.{Entry}
use Rattle.cache.specs.declared.slot.Slot.{Slot}
use Rattle.cache.specs.Index.{IsIndexOf}
use Rattle.cache.specs.Order.{IsRanked}
use Rattle.cache.proofs.Making.{free_held, free_distinct}
use Rattle.cache.proofs.Indexed.{index_none}
use Rattle.cache.proofs.Choosing.{none_below_free}
use Rattle.cache.proofs.Open.{open_free}
use Rattle.cache.proofs.table.Slots.new.Goals as goal

pub returns-clause-free : goal.returns-clause-free
returns-clause-free c = λ b. free_held c.in_ok-items.items.items b c.in_ok-items.ensures.free

pub invariant_of-result : goal.invariant_of-result
invariant_of-result c =
    let items = c.in_ok-items.items.items in
    let free = c.in_ok-items.ensures.free in
    let index = c.in_ok-new.ensures in
    let count : length items ≡ c.min-count.result = c.in_ok-items.ensures.count in
    record {
      distinct = free_distinct items free;
      some = omega (arith, count, c.min-count.ensures, c.requires.some);
      few = omega (arith, count, c.min-count.ensures, c.requires.few);
      indexed = subst (λ (l : List Entry). IsIndexOf l items) (sym index.none) (index_none items free);
      room = omega (arith, index.room, count);
      paired = c.in_ok-uses.ensures.count ∙ sym count;
      ranked = subst (λ (l : List Slot). IsRanked l c.in_ok-uses.uses.numbers.items c.rank_all.new.winners.keys.items) c.deref.ensures.value
          c.rank_all.ensures;
      skipped = none_below_free items _ free;
      opened = open_free items _ free;
    }
