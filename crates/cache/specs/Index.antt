-- An index of slots by their blocks: entries that rise by their blocks.
use Rattle.std.specs.Prelude.{◌≡◌, ℕ, ◌+◌, ◌<◌, ◌≤◌, ◌==◌, List, [], ◌∷◌, length, Option, Some, None, is_some, if◌then◌else◌, slice_get}
use Rattle.cache.specs.declared.index.Entry.{Entry}
use Rattle.cache.specs.declared.slot.Slot.{Slot}

-- the place of a block, if it has an entry
abbrev pub place_in : List Entry → ℕ → Option ℕ
place_in [] b = None
place_in (e ∷ entries) b = if e.block == b then Some e.place else place_in entries b

-- each entry has a higher block than those before it
pub record IsRising (entries : List Entry) : Type 0 where
  pub apart : (i j : ℕ) (e f : Entry) → i < j → slice_get entries i ≡ Some e → slice_get entries j ≡ Some f → e.block < f.block

-- the entry there is the block's
pub record IsEntryOf (entries : List Entry) (at block : ℕ) : Type 0 where
  pub entry : Entry
  pub is : slice_get entries at ≡ Some entry
  pub block_is : entry.block ≡ block

-- the entries below this place have lower blocks, and the others higher ones
pub record IsGapFor (entries : List Entry) (at block : ℕ) : Type 0 where
  pub within : at ≤ length entries
  pub below : (i : ℕ) (e : Entry) → i < at → slice_get entries i ≡ Some e → e.block < block
  pub above : (i : ℕ) (e : Entry) → at ≤ i → slice_get entries i ≡ Some e → block < e.block

-- the entries below this place have lower blocks, and the others don't
pub record IsStartOf (entries : List Entry) (at block : ℕ) : Type 0 where
  pub within : at ≤ length entries
  pub below : (i : ℕ) (e : Entry) → i < at → slice_get entries i ≡ Some e → e.block < block
  pub above : (i : ℕ) (e : Entry) → at ≤ i → slice_get entries i ≡ Some e → block ≤ e.block

-- the place that an entry says
abbrev pub place_there : Option Entry → Option ℕ
place_there None = None
place_there (Some e) = Some e.place

-- how many slots hold a block
abbrev pub held_count : List Slot → ℕ
held_count [] = 0
held_count (s ∷ items) = if is_some s.block then held_count items + 1 else held_count items

-- the block that a slot holds, where there is one
abbrev pub block_of : Option Slot → Option ℕ
block_of None = None
block_of (Some s) = s.block

-- each block that a slot holds has an entry, which says where, and no other block has one
pub record IsIndexOf (entries : List Entry) (items : List Slot) : Type 0 where
  pub at : (i b : ℕ) → block_of (slice_get items i) ≡ Some b → place_in entries b ≡ Some i
  pub is : (i b : ℕ) → place_in entries b ≡ Some i → block_of (slice_get items i) ≡ Some b
  pub count : length entries ≡ held_count items
