use Rattle.std.proofs.Common.{◌<◌, ℕ}
use Rattle.volume.specs.Nodes.{slot}
use Rattle.image.specs.Contents.{contents}
use Rattle.image.specs.Entered.{IsFine, IsSwept, Keeps, level_of}
use Rattle.image.proofs.enter.enter_inode.Given as goal

abbrev pub invariant-loop-s : goal.invariant-loop-s
invariant-loop-s l = record {
  swept : IsSwept l.image l.entered;
  keeps : Keeps l.fn.entered l.entered;
  fine : (k : ℕ) → k < l.s → IsFine l.image l.entered (level_of k) (slot ((contents l.image).inodes l.n) k);
}
