use Rattle.std.proofs.Common.{◌≡◌, ◌<◌, ℕ, true, get_or}
use Rattle.std.specs.Prelude.{◌==◌}
use Rattle.path.proofs.parts.leading_slashes.Given as goal

abbrev pub invariant-loop-at : goal.invariant-loop-at
invariant-loop-at l = (k : ℕ) → k < l.at → (get_or l.bytes k 0 == 47) ≡ true
