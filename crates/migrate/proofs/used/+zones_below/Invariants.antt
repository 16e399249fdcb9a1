use Rattle.std.proofs.Common.{◌≡◌, ◌≤◌, ◌+◌, ◌-◌, ◌*◌}
use Rattle.lemmas.specs.Sums.{sum_below}
use Rattle.volume.specs.Nodes.{number}
use Rattle.image.specs.Contents.{contents}
use Rattle.migrate.specs.Used.{zones_below, most_below}
use Rattle.migrate.proofs.used.+zones_below.Given as goal

abbrev pub decreases-zones_below : goal.decreases-zones_below
decreases-zones_below l = l.level

abbrev pub invariant-loop-j : goal.invariant-loop-j
invariant-loop-j l = record {
  counted : l.used ≡ 1 + sum_below (λ j. zones_below (contents l.old.image) (l.level - 1) (number (contents l.old.image) l.zone j)) l.j;
  few : l.used ≤ 1 + l.j * most_below (l.level - 1);
}
