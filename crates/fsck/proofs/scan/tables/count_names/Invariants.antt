use Rattle.std.proofs.Common.{◌≡◌, ◌<◌, ◌≤◌, ◌+◌, ℕ, length, slice_index}
use Rattle.std.specs.Prelude.{min}
use Rattle.lemmas.specs.Sums.{sum_below}
use Rattle.fsck.specs.Findings.{names_in_of}
use Rattle.image.specs.Contents.{contents}
use Rattle.fsck.proofs.scan.tables.count_names.Given as goal
use Rattle.fsck.specs.Form.{form_of}

abbrev pub invariant-loop-n : goal.invariant-loop-n
invariant-loop-n l = record {
  most : (m : ℕ) → slice_index l.named m ≤ 32768;
  named_size : length l.named ≡ l.image.geometry.inodes + 1;
  namer_size : length l.namer ≡ l.image.geometry.inodes + 1;
  counted : (m : ℕ) → m < l.image.geometry.inodes + 1 → slice_index l.named m
      ≡ min 32768 (sum_below (λ n. names_in_of (form_of l.version) l.image.geometry (contents l.image) n m) l.n);
  noted : (m : ℕ) → m < l.image.geometry.inodes + 1 → 0 < sum_below (λ n. names_in_of (form_of l.version) l.image.geometry
      (contents l.image) n m) l.n
      → 0 < names_in_of (form_of l.version) l.image.geometry (contents l.image) (slice_index l.namer m) m;
}
