use Rattle.std.proofs.Common.{ℕ, ◌<◌, false}
use Rattle.image.proofs.least.least_passing.Given as goal

abbrev pub invariant-loop-n : goal.invariant-loop-n
invariant-loop-n g l = (k : ℕ) → k < l.n → g.F.Fn.post l.test (k, tt) false
