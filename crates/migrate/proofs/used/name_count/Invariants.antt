use Rattle.std.proofs.Common.{◌≡◌, ◌≤◌, ◌+◌, ◌-◌, ◌/◌}
use Rattle.std.specs.Prelude.{not}
use Rattle.lemmas.specs.Sums.{count_below}
use Rattle.volume.specs.Nodes.{file_byte}
use Rattle.image.specs.Contents.{contents}
use Rattle.fsck.specs.Form.{version_2}
use Rattle.fsck.specs.Nodes.{is_dropped}
use Rattle.migrate.proofs.used.name_count.Given as goal

abbrev pub invariant-loop-number : goal.invariant-loop-number
invariant-loop-number l = record {
  counted : l.names ≡ count_below (λ e. not (is_dropped version_2 (file_byte l.old.image.geometry (contents l.old.image) l.inode) (e + 2)))
      (l.number - 2);
  few : l.names ≤ l.number - 2;
  near : l.number - 2 ≤ l.inode.size / 16 - 2;
}
