use Rattle.std.proofs.Common.{◌≡◌, ◌≤◌, ◌+◌}
use Rattle.std.specs.Prelude.{not}
use Rattle.lemmas.specs.Sums.{count_below}
use Rattle.image.specs.Contents.{contents}
use Rattle.migrate.proofs.convert.free_zones.Given as goal

abbrev pub invariant-loop-k : goal.invariant-loop-k
invariant-loop-k l = record {
  counted : l.free ≡ count_below (λ k. not ((contents l.volume).zone_map (k + 1))) l.k;
  few : l.free ≤ l.k;
}
