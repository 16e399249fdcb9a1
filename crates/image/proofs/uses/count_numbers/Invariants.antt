use Rattle.std.proofs.Common.{◌+◌, ℕ, length}
use Rattle.std.specs.Prelude.{◌==◌}
use Rattle.lemmas.specs.Sums.{sum_below, count_below}
use Rattle.volume.specs.Nodes.{slot, word}
use Rattle.image.specs.Contents.{contents}
use Rattle.image.specs.Counts.{AreSmall, AreCountedTo, named_by_inode, named_by_entered}
use Rattle.image.proofs.uses.count_numbers.Given as goal

abbrev pub invariant-loop-j : goal.invariant-loop-j
invariant-loop-j l = record {
  small : AreSmall l.uses;
  counted : AreCountedTo (λ z. count_below (λ j. word (contents l.image) l.above j == z) l.j) l.fn.uses l.uses;
}
