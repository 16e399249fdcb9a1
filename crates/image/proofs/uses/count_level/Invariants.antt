use Rattle.std.proofs.Common.{◌+◌, ℕ, length}
use Rattle.std.specs.Prelude.{◌==◌}
use Rattle.lemmas.specs.Sums.{sum_below, count_below}
use Rattle.volume.specs.Nodes.{slot, word}
use Rattle.image.specs.Contents.{contents}
use Rattle.image.specs.Counts.{AreSmall, AreCountedTo, named_by_inode, named_by_entered}
use Rattle.image.proofs.uses.count_level.Given as goal

abbrev pub invariant-loop-above : goal.invariant-loop-above
invariant-loop-above l = record {
  small : AreSmall l.uses;
  counted : AreCountedTo (λ z. sum_below (named_by_entered l.image l.entered l.level z) l.above) l.fn.uses l.uses;
}
