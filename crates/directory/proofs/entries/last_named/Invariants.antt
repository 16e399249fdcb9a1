use Rattle.std.proofs.Common.{◌≡◌, ◌≤◌, ◌-◌}
use Rattle.std.specs.Prelude.{slice_index}
use Rattle.directory.specs.Scan.{last_named}
use Rattle.directory.proofs.entries.last_named.Given as goal

abbrev pub invariant-loop-left : goal.invariant-loop-left
invariant-loop-left l = record {
  above : l.from ≤ l.left;
  below : l.left ≤ l.to;
  same : last_named (slice_index l.bytes) l.name l.from (l.to - l.from) ≡ last_named (slice_index l.bytes) l.name l.from (l.left - l.from);
}

abbrev pub decreases-loop-left : goal.decreases-loop-left
decreases-loop-left l = l.left
