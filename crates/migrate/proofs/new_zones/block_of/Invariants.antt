use Rattle.std.proofs.Common.{◌≡◌, ◌<◌, ◌*◌, ℕ, length, slice_index}
use Rattle.layout.specs.Bytes.{u32_at}
use Rattle.migrate.proofs.new_zones.block_of.Given as goal

abbrev pub invariant-loop-j : goal.invariant-loop-j
invariant-loop-j l = record {
  size : length l.block ≡ 1024;
  done : (i : ℕ) → i < l.j → u32_at l.block (4 * i) ≡ slice_index l.numbers i;
}
