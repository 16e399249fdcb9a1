use Rattle.std.proofs.Common.{◌≡◌, ◌<◌, ℕ, true}
use Rattle.changes.specs.Units.{is_marked}
use Rattle.changes.proofs.Marks.covers.Given as goal

abbrev pub invariant-loop-unit : goal.invariant-loop-unit
invariant-loop-unit l = (k : ℕ) → k < l.unit → is_marked l.fn.other k ≡ true → is_marked l.fn.self k ≡ true
