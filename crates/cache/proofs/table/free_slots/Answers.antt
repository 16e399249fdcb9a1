use Rattle.std.proofs.Common.{List, length, sym, ap, subst}
use Rattle.cache.specs.declared.slot.Slot.{Slot}
use Rattle.cache.specs.Slots.{AllFree}
use Rattle.cache.proofs.Making.{free_none}
use Rattle.cache.proofs.table.free_slots.Goals as goal

pub free-init : goal.free-init
free-init c = record {
  free = subst (λ (l : List Slot). AllFree l) (sym c.new-items.ensures.items) free_none;
  count = ap (λ (l : List Slot). length l) c.new-items.ensures.items;
}
