use Rattle.std.proofs.Common.{◌≡◌, ℕ, ◌<◌, ◌≤◌}
use Rattle.volume.specs.Nodes.{slot}
use Rattle.zone.proofs.cutting.pages.last_slot.Given as goal

abbrev pub invariant-loop-slot : goal.invariant-loop-slot
invariant-loop-slot l = (s : ℕ) → l.slot ≤ s → s < 10 → slot l.inode s ≡ 0
