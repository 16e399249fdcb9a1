-- The slots of a cache by their blocks, and the states of their bytes.
use Rattle.std.specs.Prelude.{◌≡◌, ℕ, ◌<◌, ◌≤◌, ◌==◌, ◌&&◌, List, length, Option, Some, None, is_some, not, Bool, true, false}
use Rattle.std.specs.Prelude.{min, if◌then◌else◌, slice_get}
use Rattle.std.specs.List.{find}
use Rattle.cache.specs.declared.state.State.{State}
use Rattle.cache.specs.declared.state.State.TheVariants.{Clean, Dirty, Writing, Changed}
use Rattle.cache.specs.declared.slot.Slot.{Slot}

-- the number is there, and is this one
abbrev pub is_number : Option ℕ → ℕ → Bool
is_number None n = false
is_number (Some m) n = m == n

-- the slot that holds each block
abbrev pub held : List Slot → ℕ → Option Slot
held items b = find (λ s. is_number s.block b) items

-- the ticket of the write that is under way
abbrev pub ticket_of : State → Option ℕ
ticket_of Clean = None
ticket_of Dirty = None
ticket_of (Writing t) = Some t
ticket_of (Changed t) = Some t

-- the bytes are the disk's
abbrev pub is_clean : State → Bool
is_clean Clean = true
is_clean Dirty = false
is_clean (Writing t) = false
is_clean (Changed t) = false

-- the bytes were changed, and no write is under way
abbrev pub is_dirty : State → Bool
is_dirty Clean = false
is_dirty Dirty = true
is_dirty (Writing t) = false
is_dirty (Changed t) = false

-- the state after a change of the bytes
abbrev pub dirtied : State → State
dirtied Clean = Dirty
dirtied Dirty = Dirty
dirtied (Writing t) = Changed t
dirtied (Changed t) = Changed t

-- the state after the write was answered good
abbrev pub written : State → State
written Clean = Clean
written Dirty = Dirty
written (Writing t) = Clean
written (Changed t) = Dirty

-- the write of the slot that is under way has this ticket
abbrev pub is_under : ℕ → Slot → Bool
is_under t s = is_number (ticket_of s.state) t

-- the slot holds a block, and its bytes were changed
abbrev pub is_dirty_slot : Slot → Bool
is_dirty_slot s = is_some s.block && is_dirty s.state

-- a block's slot, if it has one, is dirty
abbrev pub is_dirty_held : Option Slot → Bool
is_dirty_held None = false
is_dirty_held (Some s) = is_dirty s.state

-- the bytes were changed since the write that is under way was begun
abbrev pub is_changed : State → Bool
is_changed Clean = false
is_changed Dirty = false
is_changed (Writing t) = false
is_changed (Changed t) = true

-- so were those of a block's slot, if it has one
abbrev pub is_changed_held : Option Slot → Bool
is_changed_held None = false
is_changed_held (Some s) = is_changed s.state

-- those of no block were, but of blocks of which it was so before
abbrev pub OvertakesNone : (ℕ → Option Slot) → (ℕ → Option Slot) → Type 0
OvertakesNone old new = (block : ℕ) → is_changed_held (new block) ≡ true → is_changed_held (old block) ≡ true

-- the slot holds a block, and its bytes may not be the disk's
abbrev pub is_unclean_slot : Slot → Bool
is_unclean_slot s = is_some s.block && not (is_clean s.state)

-- the block of a slot whose bytes were changed, if it holds one
abbrev pub dirty_block : Slot → Option ℕ
dirty_block s = if is_dirty s.state then s.block else None

-- the block of a slot whose bytes are the disk's, if it holds one
abbrev pub clean_block : Slot → Option ℕ
clean_block s = if is_clean s.state then s.block else None

-- no dirty slot holds a block below this one
pub record NoneDirtyBelow (items : List Slot) (from : ℕ) : Type 0 where
  pub each : (i : ℕ) (s : Slot) (b : ℕ) → slice_get items i ≡ Some s → dirty_block s ≡ Some b → from ≤ b

-- the lower one of two blocks, of which the second may be missing
abbrev pub lower_of : ℕ → Option ℕ → ℕ
lower_of from None = from
lower_of from (Some b) = min from b

-- each slot with a write under way stands from the first of these places on, and before the second, which is no place past the end
pub record AreOpenWithin (items : List Slot) (from to : ℕ) : Type 0 where
  pub bound : to ≤ length items
  pub each : (i t : ℕ) (s : Slot) → slice_get items i ≡ Some s → ticket_of s.state ≡ Some t → (from ≤ i) × (i < to)

-- no slot holds a block, and no write is under way
pub record AllFree (items : List Slot) : Type 0 where
  pub each : (i : ℕ) (s : Slot) → slice_get items i ≡ Some s → s.block ≡ None
  pub clean : (i : ℕ) (s : Slot) → slice_get items i ≡ Some s → s.state ≡ Clean

-- no block has two slots
pub record IsDistinct (items : List Slot) : Type 0 where
  pub same : (i j b : ℕ) (s t : Slot) → slice_get items i ≡ Some s → slice_get items j ≡ Some t
      → s.block ≡ Some b → t.block ≡ Some b → i ≡ j
