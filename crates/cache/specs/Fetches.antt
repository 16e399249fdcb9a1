-- Where the frame of a block stands that was fetched, and which frame goes for it.
use Rattle.std.specs.Prelude.{◌≡◌, ℕ, List, Result, Ok, Err, IsOk, IfOk, Some, None, not, slice_get}
use Rattle.cache.specs.declared.frame.Frame.{Frame}
use Rattle.cache.specs.declared.slot.Slot.{Slot}
use Rattle.cache.specs.declared.table.Slots.{Slots}
use Rattle.cache.specs.declared.state.State.{State}
use Rattle.cache.specs.declared.cache.Cache.{Cache}
use Rattle.block_store.specs.declared.Cut.{Cut}
use Rattle.cache.specs.Slots.{held, is_unclean_slot}
use Rattle.cache.specs.Uses.{IsUsedLast}
use Rattle.cache.specs.Order.{IsVictim}
use Rattle.cache.specs.Growing.{IsGrown}
use Rattle.cache.specs.Edits.{IsBlankedAt, IsSlotAt, OthersStay, StayBut}

-- a slot is used now, and nothing else is changed: the link was told nothing, and no message was taken
pub record IsUsed {L : Type 0} (old new : Cache L) (at : ℕ) : Type 0 where
  pub items : new.slots.items.items ≡ old.slots.items.items
  pub used : IsUsedLast old.slots.uses.numbers.items new.slots.uses.numbers.items at
  pub rest : new ≡ record old { slots = new.slots }

-- a slot has zero bytes and is used now, and nothing else is changed
pub record IsBlanked {L : Type 0} (old new : Cache L) (at : ℕ) : Type 0 where
  pub zeros : IsBlankedAt old.slots.items.items new.slots.items.items at
  pub used : IsUsedLast old.slots.uses.numbers.items new.slots.uses.numbers.items at
  pub rest : new ≡ record old { slots = new.slots }

-- a block that has a frame is given it, whatever became of the link
abbrev pub Hits : {L : Type 0} → Result Frame Cut → Cache L → Cache L → Type 0
Hits (Ok frame) old new = IsUsed old new frame.at
Hits (Err cut) old new = ⊥

-- such a block is given its frame with zero bytes
abbrev pub BlanksFrame : {L : Type 0} → Result Frame Cut → Cache L → Cache L → Type 0
BlanksFrame (Ok frame) old new = IsBlanked old new frame.at
BlanksFrame (Err cut) old new = ⊥

-- a slot is made free, or the call is cut: it is the one that goes, and the others stay
pub record MakesRoom (result : Result ℕ Cut) (old new : Slots) : Type 0 where
  pub at : ℕ
  pub goes : IsVictim old.items.items old.uses.numbers.items at
  pub is : IfOk result (λ made. made ≡ at)
  pub stay : StayBut at old new

-- the slot there, if there is one, has this state
abbrev pub IsOfState : List Slot → ℕ → State → Type 0
IsOfState items at state = (s : Slot) → slice_get items at ≡ Some s → s.state ≡ state

-- the frame stands there, has this state and is used now; where the call was cut, none is used
abbrev pub StandsAt : State → Result Frame Cut → ℕ → Slots → Slots → Type 0
StandsAt state (Ok frame) at old new =
    (frame.at ≡ at) × IsOfState new.items.items at state × IsUsedLast old.uses.numbers.items new.uses.numbers.items at
StandsAt state (Err cut) at old new = new.uses.numbers.items ≡ old.uses.numbers.items

-- more slots may be made once a block was given one; where the call was cut, none are
abbrev pub MayGrow : Result Frame Cut → Slots → Slots → Type 0
MayGrow (Ok frame) old new = IsGrown old new
MayGrow (Err cut) old new = new ≡ old

-- no frame was given to this block
abbrev pub IsNotFor : Result Frame Cut → ℕ → Type 0
IsNotFor (Ok frame) block = frame.block ≡ block → ⊥
IsNotFor (Err cut) block = Unit {0}

-- A block that has no frame is given the slot that goes, in this state; then more slots may be made. The other slots stay, but for writes
-- that were answered good since, and no other block gets a frame.
pub record Misses {L : Type 0} (state : State) (result : Result Frame Cut) (old new : Cache L) : Type 0 where
  pub at : ℕ
  pub goes : IsVictim old.slots.items.items old.slots.uses.numbers.items at
  -- the slots before more were made
  pub filled : Slots
  pub stands : StandsAt state result at old.slots filled
  pub grows : MayGrow result filled new.slots
  pub others : OthersStay at old.slots.items.items new.slots.items.items
  pub none : (b : ℕ) → IsNotFor result b → held old.slots.items.items b ≡ None → held new.slots.items.items b ≡ None

-- Where the slot that goes needs no writing, the call isn't cut and changes slots alone: the link is told nothing, and no message is taken.
pub record IsAtOnce {L X : Type 0} (result : Result X Cut) (old new : Cache L) : Type 0 where
  pub at : ℕ
  pub goes : IsVictim old.slots.items.items old.slots.uses.numbers.items at
  pub at_once : IsSlotAt old.slots.items.items at (λ s. not (is_unclean_slot s)) → IsOk result × (new ≡ record old { slots = new.slots })
