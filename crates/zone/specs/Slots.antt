-- The slots of an inode.
use Rattle.std.specs.Prelude.{◌≡◌, ◌≢◌, ℕ, ◌<◌, Option, None, Some}
use Rattle.volume.specs.declared.Inode.{Inode}
use Rattle.volume.specs.Nodes.{slot}

-- the last slot that isn't 0, or there is none
abbrev pub IsLastSlot : Inode → Option ℕ → Type 0
IsLastSlot i None = (s : ℕ) → s < 10 → slot i s ≡ 0
IsLastSlot i (Some s) = (s < 10) × (slot i s ≢ 0) × ((t : ℕ) → s < t → t < 10 → slot i t ≡ 0)
