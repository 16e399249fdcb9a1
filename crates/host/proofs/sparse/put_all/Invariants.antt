use Rattle.std.proofs.Common.{◌≡◌, ◌≤◌, ◌-◌, ℕ, length, replicate}
use Rattle.std.specs.Prelude.{Some}
use Rattle.host.proofs.Zeros.{so_far}
use Rattle.host.proofs.sparse.put_all.Given as goal

-- where all was zero, there is now the front of the bytes, and zeros
abbrev pub invariant-loop-at : goal.invariant-loop-at
invariant-loop-at g l =
    (l.at ≤ length l.bytes)
    × ((n : ℕ) → g.S.Sink.contents l.fn.sink ≡ Some (replicate n 0) → length l.bytes ≤ n → g.S.Sink.contents l.sink ≡ Some (so_far l.bytes n l.at))

abbrev pub decreases-loop-at : goal.decreases-loop-at
decreases-loop-at g l = length l.bytes - l.at
