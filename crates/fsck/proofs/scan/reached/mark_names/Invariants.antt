use Rattle.std.proofs.Common.{◌≡◌, ◌≤◌, ◌+◌, ◌-◌, vec_capacity}
use Rattle.std.specs.Prelude.{◌==◌}
use Rattle.lemmas.specs.Sums.{count_below}
use Rattle.image.specs.Contents.{contents}
use Rattle.fsck.specs.Form.{form_of}
use Rattle.fsck.specs.Nodes.{entry_count_of}
use Rattle.fsck.specs.Entries.{target_at}
use Rattle.fsck.specs.Reached.{GoesOn}
use Rattle.fsck.proofs.scan.reached.mark_names.Given as goal

abbrev pub invariant-loop-number : goal.invariant-loop-number
invariant-loop-number l = record {
  near : l.number - 2 ≤ entry_count_of (form_of l.version) l.inode - 2;
  go : GoesOn (λ m. count_below (λ e. target_at (form_of l.version) l.image.geometry (contents l.image) l.n (e + 2) == m)
      (l.number - 2)) l.fn.seen l.fn.waiting.items l.seen l.waiting.items;
  capacity : vec_capacity l.waiting ≡ vec_capacity l.fn.waiting;
}
