use Rattle.std.proofs.Common.{◌≡◌, ℕ, ◌<◌, ◌+◌, ◌*◌, slice_index}
use Rattle.layout.specs.Bytes.{u32_at}
use Rattle.zone.proofs.numbers.read_words.Given as goal

abbrev pub invariant-loop-k : goal.invariant-loop-k
invariant-loop-k l = (i : ℕ) → i < l.k → slice_index l.into i ≡ u32_at l.bytes (4 * (l.from + i))
