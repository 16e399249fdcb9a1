-- One slot changed, and what such changes leave.
use Rattle.std.specs.Prelude.{◌≡◌, ◌⊎◌, ℕ, ◌+◌, ◌-◌, ◌^◌, ◌<◌, List, Option, Some, None, Bool, true, false, ◌≤◌, ◌&&◌, slice_get, slice_set, slice_index, if◌then◌else◌, nat_le, nat_lt, length}
use Rattle.reissue.specs.Moves.{put}
use Rattle.cache.specs.declared.slot.Slot.{Slot}
use Rattle.cache.specs.declared.table.Slots.{Slots}
use Rattle.cache.specs.declared.state.State.{State}
use Rattle.cache.specs.declared.state.State.TheVariants.{Clean, Dirty, Writing}
use Rattle.cache.specs.Slots.{held, dirtied, written, is_clean, is_dirty, is_under, is_dirty_held}

-- the slot there is changed so, and no other
pub record IsSetAt (old new : List Slot) (i : ℕ) (change : Slot → Slot) : Type 0 where
  pub slot : Slot
  pub is : slice_get old i ≡ Some slot
  pub all : new ≡ slice_set old i (change slot)

-- the slot there has these bytes from a place on, and no other is changed
pub record IsChangedAt (old new : List Slot) (i from : ℕ) (bytes : List ℕ) : Type 0 where
  pub slot : Slot
  pub after : Slot
  pub is : slice_get old i ≡ Some slot
  pub all : new ≡ slice_set old i after
  pub block : after.block ≡ slot.block
  pub state : after.state ≡ dirtied slot.state
  pub bytes_are : (o : ℕ) → slice_index after.bytes.value o
      ≡ (if nat_le from o && nat_lt o (from + length bytes) then slice_index bytes (o - from) else slice_index slot.bytes.value o)

-- the slot there has zero bytes, and no other is changed
pub record IsBlankedAt (old new : List Slot) (i : ℕ) : Type 0 where
  pub slot : Slot
  pub after : Slot
  pub is : slice_get old i ≡ Some slot
  pub all : new ≡ slice_set old i after
  pub block : after.block ≡ slot.block
  pub state : after.state ≡ dirtied slot.state
  pub zero : (o : ℕ) → slice_index after.bytes.value o ≡ 0

-- the slot there holds this block with these bytes in this state, and no other is changed
pub record IsFilledAt (old new : List Slot) (i block : ℕ) (bytes : List ℕ) (state : State) : Type 0 where
  pub slot : Slot
  pub after : Slot
  pub is : slice_get old i ≡ Some slot
  pub all : new ≡ slice_set old i after
  pub block_is : after.block ≡ Some block
  pub bytes_are : after.bytes.value ≡ bytes
  pub state_is : after.state ≡ state

-- the slot there passes this test
pub record IsSlotAt (items : List Slot) (i : ℕ) (test : Slot → Bool) : Type 0 where
  pub slot : Slot
  pub is : slice_get items i ≡ Some slot
  pub passes : test slot ≡ true

-- the slot there holds no block
pub record IsFreeAt (items : List Slot) (i : ℕ) : Type 0 where
  pub slot : Slot
  pub is : slice_get items i ≡ Some slot
  pub none : slot.block ≡ None

-- the slot there holds this block
pub record IsAt (items : List Slot) (i block : ℕ) : Type 0 where
  pub slot : Slot
  pub is : slice_get items i ≡ Some slot
  pub block_is : slot.block ≡ Some block

-- where a block stands, or that it has no slot
abbrev pub IsPlaceOf : Option ℕ → List Slot → ℕ → Type 0
IsPlaceOf None items block = held items block ≡ None
IsPlaceOf (Some at) items block = IsAt items at block

-- each block stays where it is, free slots stay as they are, and no block gets a slot
pub record Leaves (old new : List Slot) : Type 0 where
  pub count : length new ≡ length old
  pub at : (i b : ℕ) → IsAt old i b → IsAt new i b
  pub free : (i : ℕ) → IsFreeAt old i → IsFreeAt new i
  pub none : (b : ℕ) → held old b ≡ None → held new b ≡ None

-- a slot stays, but that its write may have been answered good since
pub record IsKept (old new : Slot) : Type 0 where
  pub block : new.block ≡ old.block
  pub bytes : new.bytes.value ≡ old.bytes.value
  pub state : (new.state ≡ old.state) ⊎ (new.state ≡ written old.state)

-- so does the slot there
pub record IsKeptAt (old : Slot) (new : List Slot) (i : ℕ) : Type 0 where
  pub slot : Slot
  pub is : slice_get new i ≡ Some slot
  pub kept : IsKept old slot

-- each slot stays so, and none is used
pub record AllStay (old new : Slots) : Type 0 where
  pub uses : new.uses ≡ old.uses
  pub each : (i : ℕ) (s : Slot) → slice_get old.items.items i ≡ Some s → IsKeptAt s new.items.items i

-- each slot but one stays so
abbrev pub OthersStay : ℕ → List Slot → List Slot → Type 0
OthersStay at old new = (i : ℕ) (s : Slot) → (i ≡ at → ⊥) → slice_get old i ≡ Some s → IsKeptAt s new i

-- each but one stays so, and none is used
pub record StayBut (at : ℕ) (old new : Slots) : Type 0 where
  pub uses : new.uses ≡ old.uses
  pub each : OthersStay at old.items.items new.items.items

-- a slot after the write with this ticket was answered good
abbrev pub after_write : ℕ → Slot → Slot
after_write ticket s = if is_under ticket s then record s { state = written s.state } else s

-- a block's slot after it, if it has one
abbrev pub held_after_write : ℕ → Option Slot → Option Slot
held_after_write ticket None = None
held_after_write ticket (Some s) = Some (after_write ticket s)

-- each slot whose write has this ticket is written, and the others stay
pub record IsWritten (ticket : ℕ) (old new : List Slot) : Type 0 where
  pub slots : (b : ℕ) → held new b ≡ held_after_write ticket (held old b)
  pub leaves : Leaves old new

-- the bytes of each slot with a block are the disk's
abbrev pub AllClean : (ℕ → Option Slot) → Type 0
AllClean held = (b : ℕ) (s : Slot) → held b ≡ Some s → s.state ≡ Clean

-- those of some slot may not be
pub record SomeUnclean (held : ℕ → Option Slot) : Type 0 where
  pub block : ℕ
  pub slot : Slot
  pub is : held block ≡ Some slot
  pub unclean : is_clean slot.state ≡ false

-- no slot with a block is dirty
abbrev pub NoneDirty : (ℕ → Option Slot) → Type 0
NoneDirty held = (b : ℕ) (s : Slot) → held b ≡ Some s → is_dirty s.state ≡ false

-- the write of the dirty slot there is begun, and the slots of other blocks stay
pub record IsIssued (items : List Slot) (at : ℕ) (held' : ℕ → Option Slot) : Type 0 where
  pub slot : Slot
  pub block : ℕ
  pub ticket : ℕ
  pub is : slice_get items at ≡ Some slot
  pub block_is : slot.block ≡ Some block
  pub dirty : slot.state ≡ Dirty
  pub all : held' ≡ put (held items) block (Some (record slot { state = Writing ticket }))

-- a dirty slot stands there, and none has a lower block
pub record IsLowestDirty (items : List Slot) (i : ℕ) : Type 0 where
  pub slot : Slot
  pub block : ℕ
  pub is : slice_get items i ≡ Some slot
  pub block_is : slot.block ≡ Some block
  pub dirty : slot.state ≡ Dirty
  pub lowest : (b : ℕ) (s : Slot) → held items b ≡ Some s → s.state ≡ Dirty → block ≤ b

-- where the dirty slot with the lowest block stands, or that there is none
abbrev pub IsLowestOf : Option ℕ → List Slot → Type 0
IsLowestOf None items = NoneDirty (held items)
IsLowestOf (Some at) items = IsLowestDirty items at

-- no slot of a block from this one on is dirty
abbrev pub NoneDirtyFrom : ℕ → (ℕ → Option Slot) → Type 0
NoneDirtyFrom from held = (b : ℕ) (s : Slot) → from ≤ b → held b ≡ Some s → is_dirty s.state ≡ false

-- a dirty slot stands there whose block is this one or a higher one, and no dirty slot of such a block has a lower one
pub record IsNextDirty (items : List Slot) (from i : ℕ) : Type 0 where
  pub slot : Slot
  pub block : ℕ
  pub is : slice_get items i ≡ Some slot
  pub block_is : slot.block ≡ Some block
  pub dirty : slot.state ≡ Dirty
  pub reach : from ≤ block
  pub lowest : (b : ℕ) (s : Slot) → from ≤ b → held items b ≡ Some s → s.state ≡ Dirty → block ≤ b

-- where the dirty slot with the lowest block from this one on stands, or that there is none
abbrev pub IsNextOf : Option ℕ → List Slot → ℕ → Type 0
IsNextOf None items from = NoneDirtyFrom from (held items)
IsNextOf (Some at) items from = IsNextDirty items from at

-- the write of the dirty slot with the lowest block from this one on is begun, and the slots of other blocks stay
pub record IssuesNext (from block : ℕ) (old new : ℕ → Option Slot) : Type 0 where
  pub slot : Slot
  pub ticket : ℕ
  pub is : old block ≡ Some slot
  pub dirty : slot.state ≡ Dirty
  pub reach : from ≤ block
  pub lowest : (b : ℕ) (s : Slot) → from ≤ b → old b ≡ Some s → s.state ≡ Dirty → block ≤ b
  pub all : new ≡ put old block (Some (record slot { state = Writing ticket }))

-- so it is of this block, or nothing is begun
abbrev pub BeginsNext : ℕ → Option ℕ → (ℕ → Option Slot) → (ℕ → Option Slot) → Type 0
BeginsNext from None old new = new ≡ old
BeginsNext from (Some block) old new = IssuesNext from block old new

-- the write of the dirty slot with the lowest block is begun, and the slots of other blocks stay
pub record IssuesLowest (old new : ℕ → Option Slot) : Type 0 where
  pub slot : Slot
  pub block : ℕ
  pub ticket : ℕ
  pub is : old block ≡ Some slot
  pub dirty : slot.state ≡ Dirty
  pub lowest : (b : ℕ) (s : Slot) → old b ≡ Some s → s.state ≡ Dirty → block ≤ b
  pub all : new ≡ put old block (Some (record slot { state = Writing ticket }))

-- so many neighbouring blocks from this one on have dirty slots
abbrev pub AreDirty : (ℕ → Option Slot) → ℕ → ℕ → Type 0
AreDirty held block count = (i : ℕ) → i < count → is_dirty_held (held (block + i)) ≡ true

-- no run goes on at this block: it isn't dirty, or no block has its number
abbrev pub IsRunEnd : (ℕ → Option Slot) → ℕ → Type 0
IsRunEnd held block = (2 ^ 32 ≤ block) ⊎ (is_dirty_held (held block) ≡ false)

-- the lowest block with a dirty slot, or that there is none
abbrev pub IsLowestBlock : Option ℕ → (ℕ → Option Slot) → Type 0
IsLowestBlock None held = NoneDirty held
IsLowestBlock (Some block) held =
    (is_dirty_held (held block) ≡ true) × ((b : ℕ) (s : Slot) → held b ≡ Some s → s.state ≡ Dirty → block ≤ b)

-- the slot was dirty, and its write is begun under this ticket
pub record IsBegun (ticket : ℕ) (old new : Option Slot) : Type 0 where
  pub slot : Slot
  pub is : old ≡ Some slot
  pub dirty : slot.state ≡ Dirty
  pub after : new ≡ Some (record slot { state = Writing ticket })

-- the block isn't one of so many from this one on
abbrev pub IsOutside : ℕ → ℕ → ℕ → Type 0
IsOutside block count b = (b < block) ⊎ (block + count ≤ b)

-- the writes of so many neighbouring blocks from this one on are begun under one ticket, and the slots of other blocks stay
pub record AreBegun (block count ticket : ℕ) (old new : ℕ → Option Slot) : Type 0 where
  pub each : (i : ℕ) → i < count → IsBegun ticket (old (block + i)) (new (block + i))
  pub others : (b : ℕ) → IsOutside block count b → new b ≡ old b
