-- What is written and what is left are the whole.
use Rattle.std.proofs.Common.{◌≡◌, ◌<◌, ◌+◌, ◌*◌, ◌++◌, ℕ, take, drop, length, slice_index}
use Rattle.std.specs.Int.{w32, to_le_bytes}
use Rattle.std.specs.List.{flat_map}
use Rattle.inode.specs.Bytes.{bytes_of}
use Rattle.inode.proofs.encode.Given as goal

abbrev pub invariant-loop-k : goal.invariant-loop-k
invariant-loop-k l = record {
  whole : take (24 + 4 * l.k) l.bytes ++ flat_map (to_le_bytes w32) (drop l.k l.inode.zones) ≡ bytes_of l.inode;
  size : length l.bytes ≡ 64;
  fit : (j : ℕ) → j < l.k → slice_index l.inode.zones j < 4294967296;
}
