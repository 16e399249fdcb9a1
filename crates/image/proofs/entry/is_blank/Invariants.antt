use Rattle.std.proofs.Common.{◌≡◌, slice_index}
use Rattle.std.specs.Prelude.{not, ◌==◌}
use Rattle.lemmas.specs.Sums.{some_below}
use Rattle.image.proofs.entry.is_blank.Given as goal

abbrev pub invariant-loop-k : goal.invariant-loop-k
invariant-loop-k l = l.blank ≡ not (some_below (λ k. not (slice_index l.bytes k == 0)) l.k)
