use Rattle.std.proofs.Common.{◌+◌, ℕ, length}
use Rattle.std.specs.Prelude.{◌==◌}
use Rattle.lemmas.specs.Sums.{sum_below, count_below}
use Rattle.volume.specs.Nodes.{slot, word}
use Rattle.image.specs.Contents.{contents}
use Rattle.image.specs.Counts.{AreSmall, AreCountedTo, named_by_inode, named_by_entered}
use Rattle.image.proofs.uses.count_inodes.Given as goal

abbrev pub invariant-loop-n : goal.invariant-loop-n
invariant-loop-n l = record {
  small : AreSmall l.uses;
  counted : AreCountedTo (λ z. sum_below (named_by_inode l.image z) l.n) l.fn.uses l.uses;
}
