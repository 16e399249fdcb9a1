-- The numbers in the entries of a directory.
use Rattle.std.specs.Prelude.{ℕ, ◌<◌, ◌≤◌}
use Rattle.volume.specs.Nodes.{entry_inode}

-- each of so many entries but the first two has a number that an inode may have
abbrev pub HasInodes : (ℕ → ℕ) → ℕ → Type 0
HasInodes f count = (k : ℕ) → 2 ≤ k → k < count → entry_inode f k ≤ 65535
