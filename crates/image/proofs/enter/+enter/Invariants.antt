use Rattle.std.proofs.Common.{◌<◌, ◌-◌, ℕ}
use Rattle.volume.specs.Nodes.{word}
use Rattle.image.specs.Contents.{contents}
use Rattle.image.specs.Entered.{IsFine, IsSwept, Keeps}
use Rattle.image.proofs.enter.+enter.Given as goal

abbrev pub decreases-enter : goal.decreases-enter
decreases-enter l = l.level

abbrev pub invariant-loop-j : goal.invariant-loop-j
invariant-loop-j l = record {
  swept : IsSwept l.image l.entered;
  keeps : Keeps l.fn.entered l.entered;
  fine : (k : ℕ) → k < l.j → IsFine l.image l.entered (l.level - 1) (word (contents l.image) l.zone k);
}
