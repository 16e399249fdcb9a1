use Rattle.std.proofs.Common.{◌≡◌, ℕ, ◌<◌, ◌≤◌, ◌*◌}
use Rattle.layout.specs.Bytes.{u32_at}
use Rattle.zone.proofs.numbers.last_word.Given as goal

abbrev pub invariant-loop-index : goal.invariant-loop-index
invariant-loop-index l = (i : ℕ) → l.index ≤ i → i < l.before → u32_at l.bytes (4 * i) ≡ 0
