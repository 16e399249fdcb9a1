use Rattle.std.proofs.Common.{◌≡◌, ◌+◌, ◌<◌, ℕ, slice_index, false}
use Rattle.std.specs.Prelude.{not, ◌==◌}
use Rattle.image.proofs.entry.is_field.Given as goal

abbrev pub invariant-loop-a : goal.invariant-loop-a
invariant-loop-a l = (k : ℕ) → k < l.a → not (slice_index l.entry (4 + k) == slice_index l.name k) ≡ false
