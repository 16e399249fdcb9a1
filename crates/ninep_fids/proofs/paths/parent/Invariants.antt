use Rattle.std.proofs.Common.{◌≡◌, ◌≤◌, false, length, drop}
use Rattle.ninep_fids.specs.Paths.{has_byte}
use Rattle.ninep_fids.proofs.paths.parent.Given as goal

abbrev pub invariant-loop-at : goal.invariant-loop-at
invariant-loop-at l = record { below : l.at ≤ length l.path; none : has_byte (drop l.at l.path) 47 ≡ false }

abbrev pub decreases-loop-at : goal.decreases-loop-at
decreases-loop-at l = l.at
