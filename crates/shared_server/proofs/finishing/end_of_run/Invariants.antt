use Rattle.std.proofs.Common.{◌≡◌, ◌≤◌, ◌<◌, ℕ, true}
use Rattle.changes.specs.Units.{is_marked}
use Rattle.shared_server.proofs.finishing.end_of_run.Given as goal

abbrev pub invariant-loop-unit : goal.invariant-loop-unit
invariant-loop-unit l = (n : ℕ) → l.from ≤ n → n < l.unit → is_marked l.units n ≡ true
