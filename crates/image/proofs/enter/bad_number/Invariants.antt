use Rattle.std.proofs.Common.{◌≡◌, ◌<◌, ℕ, true, false}
use Rattle.volume.specs.Nodes.{is_marked}
use Rattle.volume.specs.Findings.{has_bad_number}
use Rattle.image.specs.Contents.{contents}
use Rattle.image.specs.Entered.{IsSwept, SlotsAreFine}
use Rattle.image.proofs.enter.bad_number.Given as goal

abbrev pub invariant-loop-n : goal.invariant-loop-n
invariant-loop-n l = record {
  swept : IsSwept l.image l.entered;
  slots : (k : ℕ) → k < l.n → is_marked l.image.geometry (contents l.image) k ≡ true → SlotsAreFine l.image l.entered k;
  none : (k : ℕ) → k < l.n → has_bad_number l.image.geometry (contents l.image) k ≡ false;
}
