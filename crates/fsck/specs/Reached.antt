-- A walk along the names from the root.
use Rattle.std.specs.Prelude.{◌≡◌, ◌<◌, ◌≤◌, ℕ, ◌+◌, List, length, slice_index, slice_index_or, Bool, true, false, if◌then◌else◌}
use Rattle.std.specs.List.{sum_by}
use Rattle.image.specs.declared.Image.{Image}
use Rattle.image.specs.Contents.{contents}
use Rattle.fsck.specs.Form.{EntryForm}
use Rattle.fsck.specs.Findings.{is_reached}

-- inode n is marked
abbrev pub is_seen : List Bool → ℕ → Bool
is_seen seen n = slice_index_or seen n false

-- how many aren't
abbrev pub unseen : List Bool → ℕ
unseen seen = sum_by (λ b. if b then 0 else 1) seen

-- inode n waits
abbrev pub IsWaiting : List ℕ → ℕ → Type 0
IsWaiting waiting n = (j : ℕ) × (j < length waiting) × (slice_index waiting j ≡ n)

-- those that are marked are those that are reached from the root
abbrev pub AreReached : EntryForm → Image → List Bool → Type 0
AreReached form i seen = (n : ℕ) → n < i.geometry.inodes + 1 → is_seen seen n ≡ is_reached form i.geometry (contents i) i.geometry.inodes n

-- All inodes of which there is more are marked, and no others; those that weren't before wait, behind those that waited.
pub record GoesOn (more : ℕ → ℕ) (seen : List Bool) (waiting : List ℕ) (seen' : List Bool) (waiting' : List ℕ) : Type 0 where
  pub size : length seen' ≡ length seen
  pub longer : length waiting ≤ length waiting'
  pub waits : (j : ℕ) → j < length waiting → slice_index waiting' j ≡ slice_index waiting j
  pub keeps : (k : ℕ) → is_seen seen k ≡ true → is_seen seen' k ≡ true
  pub new : (k : ℕ) → is_seen seen k ≡ false → is_seen seen' k ≡ true → (0 < more k) × IsWaiting waiting' k
  pub all : (k : ℕ) → k < length seen → 0 < more k → is_seen seen' k ≡ true
  pub marked : (j : ℕ) → length waiting ≤ j → j < length waiting' → is_seen seen' (slice_index waiting' j) ≡ true
  pub less : unseen seen' + length waiting' ≡ unseen seen + length waiting
