use Rattle.std.proofs.Common.{◌≡◌, ◌<◌, ◌+◌, ℕ, false, get_or}
use Rattle.std.specs.Prelude.{◌==◌}
use Rattle.directory.proofs.entries.name_length.Given as goal

abbrev pub invariant-loop-many : goal.invariant-loop-many
invariant-loop-many l = (j : ℕ) → j < l.many → (get_or l.bytes (l.at + j) 0 == 0) ≡ false
