use Rattle.std.proofs.Common.{◌≡◌, ◌≤◌, ◌<◌, ℕ, length, replicate, get_or}
use Rattle.host.proofs.sparse.is_zero.Given as goal

-- no byte so far is over the most, which is 0 where all bytes are
abbrev pub invariant-loop-byte : goal.invariant-loop-byte
invariant-loop-byte l =
    ((k : ℕ) → k < l.byte-index → get_or l.bytes k 0 ≤ l.most) × (l.bytes ≡ replicate (length l.bytes) 0 → l.most ≡ 0)
