use Rattle.std.proofs.Common.{◌≡◌, ◌+◌, ◌<◌, ℕ, slice_index, false}
use Rattle.std.specs.Prelude.{not, ◌==◌, ◌&&◌}
use Rattle.image.proofs.entry.is_padded.Given as goal

abbrev pub invariant-loop-a : goal.invariant-loop-a
invariant-loop-a l = (k : ℕ) → k < l.a → ((slice_index l.entry (4 + k) == 0) && not (slice_index l.entry (4 + (k + 1)) == 0)) ≡ false
