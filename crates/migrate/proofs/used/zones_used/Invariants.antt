use Rattle.std.proofs.Common.{◌≡◌, ◌≤◌, ◌*◌}
use Rattle.lemmas.specs.Sums.{sum_below}
use Rattle.tree.specs.Space.{zones_of}
use Rattle.image.specs.Contents.{contents}
use Rattle.fsck.specs.Form.{version_2}
use Rattle.fsck.specs.Nodes.{nodes_of}
use Rattle.migrate.proofs.used.zones_used.Given as goal

abbrev pub invariant-loop-n : goal.invariant-loop-n
invariant-loop-n l = record {
  counted : l.used ≡ sum_below (λ n. zones_of l.old.image.geometry (nodes_of version_2 l.old.image.geometry (contents l.old.image) n)) l.n;
  few : l.used ≤ 268435456 * l.n;
}
