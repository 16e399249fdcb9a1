use Rattle.std.proofs.Common.{◌≡◌, ◌≤◌, ◌+◌, ◌-◌, ℕ, length, slice_index}
use Rattle.std.specs.Prelude.{◌==◌}
use Rattle.lemmas.specs.Sums.{count_below}
use Rattle.fsck.specs.Nodes.{entry_count_of}
use Rattle.fsck.specs.Entries.{target_at}
use Rattle.image.specs.Contents.{contents}
use Rattle.fsck.specs.Named.{AreNamedMore}
use Rattle.fsck.proofs.scan.tables.count_names_in.Given as goal
use Rattle.fsck.specs.Form.{form_of}

abbrev pub invariant-loop-number : goal.invariant-loop-number
invariant-loop-number l = record {
  most : (m : ℕ) → slice_index l.named m ≤ 32768;
  near : l.number - 2 ≤ entry_count_of (form_of l.version) l.inode - 2;
  sizes : length l.namer ≡ length l.named;
  more : AreNamedMore l.n (λ m. count_below (λ e. target_at (form_of l.version) l.image.geometry (contents l.image) l.n (e + 2) == m)
      (l.number - 2))
      l.fn.named l.fn.namer l.named l.namer;
}
