use Rattle.std.proofs.Common.{◌≡◌, ◌≤◌, ◌+◌, length}
use Rattle.tree.specs.Walk.{parts_of}
use Rattle.path.specs.Lasts.{has_long}
use Rattle.path.proofs.parts.count_short.Given as goal

abbrev pub invariant-loop-part : goal.invariant-loop-part
invariant-loop-part l = record {
  counted : l.count + length (parts_of l.left) ≡ length (parts_of l.bytes);
  long : has_long (parts_of l.bytes) ≡ has_long (parts_of l.left);
  few : l.count + length l.left ≤ length l.bytes;
}

abbrev pub decreases-loop-part : goal.decreases-loop-part
decreases-loop-part l = length l.left
