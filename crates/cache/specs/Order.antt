-- Which slot goes first, in the order of their last use.
use Rattle.std.specs.Prelude.{◌≡◌, ◌⊎◌, ℕ, ◌+◌, ◌^◌, ◌<◌, ◌≤◌, List, length, slice_get, slice_index, Option, Some, None, is_some}
use Rattle.std.specs.Prelude.{if◌then◌else◌}
use Rattle.cache.specs.declared.slot.Slot.{Slot}
use Rattle.cache.specs.Slots.{is_clean, is_unclean_slot, dirty_block}

-- which slots are looked among, the one used longest ago first: the free ones, those that aren't unclean, all
pub data Among : Type 0 where
  Free : Among
  Clean : Among
  All : Among

-- the number of a slot's last use, if it is among those that are looked at
abbrev pub slot_key : Among → Option Slot → ℕ → Option ℕ
slot_key a None used = None
slot_key Free (Some s) used = if is_some s.block then None else Some used
slot_key Clean (Some s) used = if is_unclean_slot s then None else Some used
slot_key All (Some s) used = Some used

-- the same of the slot at a place
abbrev pub key_of : Among → List Slot → List ℕ → ℕ → Option ℕ
key_of a items numbers at = slot_key a (slice_get items at) (slice_index numbers at)

-- it is among them, and no number of those below n is lower
pub record IsLeast (keys : ℕ → Option ℕ) (n at : ℕ) : Type 0 where
  pub key : ℕ
  pub in_range : at < n
  pub is : keys at ≡ Some key
  pub least : (i other : ℕ) → i < n → keys i ≡ Some other → key ≤ other

-- the first of those below n, if there is one
abbrev pub IsFirst : (ℕ → Option ℕ) → ℕ → Option ℕ → Type 0
IsFirst keys n None = (i : ℕ) → i < n → keys i ≡ None
IsFirst keys n (Some at) = IsLeast keys n at

-- no slot is among these
abbrev pub IsNone : Among → List Slot → List ℕ → Type 0
IsNone a items numbers = IsFirst (key_of a items numbers) (length items) None

-- the slot there is the first among these
abbrev pub IsFirstOf : Among → List Slot → List ℕ → ℕ → Type 0
IsFirstOf a items numbers at = IsFirst (key_of a items numbers) (length items) (Some at)

-- the slot that goes next: a free one; where none is free, of the clean ones the one used longest ago; where none is clean, of all
pub record IsVictim (items : List Slot) (numbers : List ℕ) (at : ℕ) : Type 0 where
  pub chosen : IsFirstOf Free items numbers at
      ⊎ (IsNone Free items numbers × (IsFirstOf Clean items numbers at
      ⊎ (IsNone Clean items numbers × IsFirstOf All items numbers at)))

-- the block of the slot that goes next, where its bytes were changed and no write of them is under way
pub record IsDue (due : Option ℕ) (items : List Slot) (numbers : List ℕ) : Type 0 where
  pub at : ℕ
  pub slot : Slot
  pub goes : IsVictim items numbers at
  pub is : slice_get items at ≡ Some slot
  pub due_is : due ≡ dirty_block slot

-- a slot's eviction rank by the number of its last use, which is below 2 ^ 62: a lower one goes first
abbrev pub eviction_rank : Slot → ℕ → ℕ
eviction_rank s used = if is_some s.block then (if is_clean s.state then 2 ^ 62 + used else 2 ^ 63 + used) else used

-- each key but the one at this place is the eviction rank of its slot
pub record IsRankedBut (at : ℕ) (items : List Slot) (numbers keys : List ℕ) : Type 0 where
  pub count : length keys ≡ length items
  pub each : (i : ℕ) (s : Slot) → (i ≡ at → ⊥) → slice_get items i ≡ Some s → slice_index keys i ≡ eviction_rank s (slice_index numbers i)

-- each key is the eviction rank of its slot
pub record IsRanked (items : List Slot) (numbers keys : List ℕ) : Type 0 where
  pub count : length keys ≡ length items
  pub each : (i : ℕ) (s : Slot) → slice_get items i ≡ Some s → slice_index keys i ≡ eviction_rank s (slice_index numbers i)
