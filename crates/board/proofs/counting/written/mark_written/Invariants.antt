use Rattle.std.proofs.Common.{◌≡◌, ◌<◌, ◌&&◌, ◌||◌, ℕ, length, nat_le, nat_lt}
use Rattle.changes.specs.Units.{is_marked}
use Rattle.board.proofs.counting.written.mark_written.Given as goal

abbrev pub invariant-loop-unit : goal.invariant-loop-unit
invariant-loop-unit l = record {
  number : length l.units ≡ 16384;
  each : (n : ℕ) → n < 16384 → is_marked l.units n ≡ ((nat_le l.first n && nat_lt n l.unit) || is_marked l.fn.units n);
}
