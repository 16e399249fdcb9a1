use Rattle.std.proofs.Common.{◌≡◌, ◌<◌, ◌≤◌, ◌+◌, ◌*◌, ℕ, length, slice_index}
use Rattle.migrate.proofs.new_zones.page_of.Given as goal

abbrev pub invariant-loop-o : goal.invariant-loop-o
invariant-loop-o l = record {
  size : length l.block ≡ 1024;
  done : (k : ℕ) → k < l.o → slice_index l.block k ≡ slice_index l.bytes (1024 * l.page + k);
  rest : (k : ℕ) → l.o ≤ k → slice_index l.block k ≡ 0;
}
