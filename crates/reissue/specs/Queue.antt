-- The entries of a slab in the order of a list of keys.
use Rattle.std.specs.Prelude.{◌≡◌, ◌≢◌, ℕ, ◌+◌, ◌≤◌, List, [], ◌∷◌, length, Option, Some, None}
use Rattle.std.specs.Global.{Box}
use Rattle.slab.specs.Slab.{Slab, get, slab_len}
use Rattle.reissue.specs.declared.pending.Pending.{Pending}

-- these after the entry, if there is one
abbrev pub with_entry : Option (Box Pending) → List Pending → List Pending
with_entry None rest = rest
with_entry (Some p) rest = p.value ∷ rest

-- the entries at these keys, in their order
abbrev pub entries_at : Slab (Box Pending) → List ℕ → List Pending
entries_at slab [] = []
entries_at slab (key ∷ keys) = with_entry (get slab key) (entries_at slab keys)

-- the key is none of these
abbrev pub IsOtherKey : ℕ → List ℕ → Type 0
IsOtherKey key [] = Unit {0}
IsOtherKey key (other ∷ keys) = (other ≢ key) × IsOtherKey key keys

-- no key stands twice, and each has an entry
abbrev pub HoldsKeys : Slab (Box Pending) → List ℕ → Type 0
HoldsKeys slab [] = Unit {0}
HoldsKeys slab (key ∷ keys) = ((p : Box Pending) × (get slab key ≡ Some p)) × IsOtherKey key keys × HoldsKeys slab keys

-- each entry has one key, both have room for sixteen, and there are rooms for those that may still come
pub record IsQueue (slab : Slab (Box Pending)) (keys : List ℕ) (capacity : ℕ) (spare : List (Box Pending)) (spare_capacity : ℕ) : Type 0 where
  pub holds : HoldsKeys slab keys
  pub same : slab_len slab ≡ length keys
  pub slab_room : 16 ≤ slab.capacity
  pub key_room : 16 ≤ capacity
  pub rooms : length spare + length keys ≡ 16
  pub spare_room : 16 ≤ spare_capacity
