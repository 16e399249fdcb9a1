use Rattle.std.proofs.Common.{◌≢◌, ◌+◌, ◌<◌, ℕ, slice_index}
use Rattle.image.proofs.entry.name_of.Given as goal

abbrev pub invariant-loop-a : goal.invariant-loop-a
invariant-loop-a l = (k : ℕ) → k < l.a → slice_index l.entry (4 + k) ≢ 0
