-- A tournament of places that each have a key. With n places a node i, from 1 on and below n, has the children 2 i and 2 i + 1, where a
-- number from n on is the leaf of the place that is so many past n.
use Rattle.std.specs.Prelude.{◌≡◌, ◌≢◌, ℕ, ◌+◌, ◌-◌, ◌*◌, ◌^◌, ◌<◌, ◌≤◌, List, length, slice_index, nat_lt, not, Bool, if◌then◌else◌}
use Rattle.std.specs.List.{count_by}

-- which place wins at a node or a leaf
abbrev pub winner : List ℕ → ℕ → ℕ
winner nodes c = if nat_lt c (length nodes) then slice_index nodes c else c - length nodes

-- it wins at the left child of the node or else at the right one, and what wins at either has no lower key
pub record IsBest (keys nodes : List ℕ) (i at : ℕ) : Type 0 where
  pub one : at ≢ winner nodes (2 * i) → at ≡ winner nodes (2 * i + 1)
  pub left : slice_index keys at ≤ slice_index keys (winner nodes (2 * i))
  pub right : slice_index keys at ≤ slice_index keys (winner nodes (2 * i + 1))

-- at each node but the lowest number a best place wins
pub record IsTree (keys nodes : List ℕ) : Type 0 where
  pub count : length nodes ≡ length keys
  pub within : (i : ℕ) → i < length nodes → slice_index nodes i < length nodes
  pub each : (i : ℕ) → 0 < i → i < length nodes → IsBest keys nodes i (slice_index nodes i)

-- it was so with another key of this place
pub record WasTree (at : ℕ) (keys nodes : List ℕ) : Type 0 where
  pub before : List ℕ
  pub count : length before ≡ length keys
  pub others : (i : ℕ) → (i ≡ at → ⊥) → slice_index before i ≡ slice_index keys i
  pub tree : IsTree before nodes

-- no place has a lower key
pub record IsLowest (keys : List ℕ) (at : ℕ) : Type 0 where
  pub in_range : at < length keys
  pub least : (i : ℕ) → i < length keys → slice_index keys at ≤ slice_index keys i

-- a late key
abbrev pub is_late : ℕ → Bool
is_late key = not (nat_lt key (2 ^ 63))

-- how many are late
abbrev pub late_count : List ℕ → ℕ
late_count keys = count_by is_late keys

-- no key is late
pub record IsNoneLate (keys : List ℕ) : Type 0 where
  pub early : (i : ℕ) → i < length keys → slice_index keys i < 2 ^ 63

-- a key is late
pub record IsSomeLate (keys : List ℕ) : Type 0 where
  pub at : ℕ
  pub in_range : at < length keys
  pub late : 2 ^ 63 ≤ slice_index keys at
