use Rattle.std.proofs.Common.{◌≡◌, ◌≤◌, ◌+◌, ◌-◌}
use Rattle.lemmas.specs.Sums.{count_below}
use Rattle.volume.specs.Entries.{is_directory_inode}
use Rattle.fsck.specs.Nodes.{entry_count_of}
use Rattle.fsck.specs.Entries.{target_at}
use Rattle.image.specs.Contents.{contents}
use Rattle.fsck.proofs.scan.homes.subdirectories.Given as goal
use Rattle.fsck.specs.Form.{form_of}

abbrev pub invariant-loop-number : goal.invariant-loop-number
invariant-loop-number l = record {
  near : l.number - 2 ≤ entry_count_of (form_of l.version) l.inode - 2;
  most : l.count ≤ l.number - 2;
  value : l.count ≡ count_below (λ e. is_directory_inode l.image.geometry (contents l.image)
      (target_at (form_of l.version) l.image.geometry (contents l.image) l.n (e + 2))) (l.number - 2);
}
