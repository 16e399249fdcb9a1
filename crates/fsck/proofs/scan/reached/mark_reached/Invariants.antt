use Rattle.std.proofs.Common.{◌≤◌, ◌+◌, ◌*◌, length, vec_len, vec_capacity}
use Rattle.fsck.specs.Form.{form_of}
use Rattle.fsck.specs.Reached.{unseen}
use Rattle.fsck.proofs.Walks.{IsWalk}
use Rattle.fsck.proofs.scan.reached.mark_reached.Given as goal

abbrev pub invariant-loop-n : goal.invariant-loop-n
invariant-loop-n l = record {
  walk : IsWalk (form_of l.version) l.image l.seen l.waiting.items;
  room : unseen l.seen + length l.waiting.items ≤ vec_capacity l.waiting;
}

abbrev pub decreases-loop-n : goal.decreases-loop-n
decreases-loop-n l = 2 * unseen l.seen + vec_len l.waiting
