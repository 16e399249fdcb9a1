-- How more slots are made.
use Rattle.std.specs.Prelude.{◌≡◌, ◌≢◌, ◌++◌, List, [], length}
use Rattle.cache.specs.declared.slot.Slot.{Slot}
use Rattle.cache.specs.declared.table.Slots.{Slots}
use Rattle.cache.specs.Slots.{AllFree}
use Rattle.cache.specs.Order.{Free, IsNone}
use Rattle.cache.specs.Uses.{IsLonger}

-- Behind the slots that there were, which stay and were used as before, more stand, all of them free: none unless each slot held a block.
pub record IsGrown (old new : Slots) : Type 0 where
  pub added : List Slot
  pub items : new.items.items ≡ old.items.items ++ added
  pub free : AllFree added
  pub uses : IsLonger old.uses.numbers.items new.uses.numbers.items (length new.items.items)
  pub limit : new.uses.limit ≡ old.uses.limit
  pub wanted : added ≢ [] → IsNone Free old.items.items old.uses.numbers.items
