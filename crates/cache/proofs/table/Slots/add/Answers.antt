use Rattle.std.proofs.Common.{◌≡◌, ◌+◌, ◌++◌, List, length, refl, sym, ap, subst, ◌∙◌, arith}
use Rattle.std.proofs.lemmas.List.{length-append}
use Rattle.cache.specs.declared.index.Entry.{Entry}
use Rattle.cache.specs.declared.slot.Slot.{Slot}
use Rattle.cache.specs.Slots.{IsDistinct, NoneDirtyBelow, AreOpenWithin}
use Rattle.cache.specs.Index.{IsIndexOf}
use Rattle.cache.specs.Order.{IsRanked}
use Rattle.cache.proofs.Growing.{distinct_more, grown_same}
use Rattle.cache.proofs.Indexed.{index_more}
use Rattle.cache.proofs.Choosing.{none_below_more}
use Rattle.cache.proofs.Open.{open_more}
use Rattle.cache.proofs.table.Slots.add.Goals as goal

pub returns-in_err-winners-clause-grown : goal.returns-in_err-winners-clause-grown
returns-in_err-winners-clause-grown c = grown_same _ _ refl refl

pub returns-in_err-reserve-clause-grown : goal.returns-in_err-reserve-clause-grown
returns-in_err-reserve-clause-grown c = grown_same _ _ refl refl

pub invariant_of-self-2 : goal.invariant_of-self-2
invariant_of-self-2 c =
    let s = c.args.self.now in
    let old = s.items.items in
    let new = c.append.new.self.items in
    let added = c.in_ok-slots.slots.items in
    let free = c.in_ok-slots.ensures.free in
    let all : new ≡ old ++ added = c.in_ok-append.ensures.items in
    let both = ap (λ (l : List Slot). length l) all ∙ length-append old added in
    let count : length new ≡ length old + c.args.more = omega (arith, both, c.in_ok-slots.ensures.count) in
    let many : c.len.result ≡ length old = omega (arith, c.len.ensures, s.items.ok) in
    record {
      distinct = subst (λ (l : List Slot). IsDistinct l) (sym all) (distinct_more old added free s.distinct);
      some = omega (arith, count, s.some);
      few = let most = s.uses.most in omega (arith, count, c.requires.few, most);
      indexed = subst (λ (l : List Entry). IsIndexOf l new) (sym c.in_ok-reserve.ensures.entries)
          (subst (λ (l : List Slot). IsIndexOf s.index.entries.items l) (sym all) (index_more s.index.entries.items old added free s.indexed));
      room = omega (arith, c.in_ok-reserve.ensures.enough, count, many);
      paired = omega (arith, c.in_ok-uses.ensures.numbers.count_is, count, many);
      ranked = subst (λ (l : List Slot). IsRanked l c.in_ok-uses.uses.numbers.items c.rank_all.new.winners.keys.items) c.deref.ensures.value
          c.rank_all.ensures;
      skipped = subst (λ (l : List Slot). NoneDirtyBelow l s.search_from) (sym all) (none_below_more old added s.search_from free s.skipped);
      opened = subst (λ (l : List Slot). AreOpenWithin l s.open_from s.open_to) (sym all) (open_more old added s.open_from s.open_to free s.opened);
    }
