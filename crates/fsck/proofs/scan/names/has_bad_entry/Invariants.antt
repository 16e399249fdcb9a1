use Rattle.std.proofs.Common.{◌≡◌, ◌<◌, ℕ, false}
use Rattle.fsck.specs.Findings.{is_bad_entry}
use Rattle.image.specs.Contents.{contents}
use Rattle.fsck.proofs.Doubles.{AreNames}
use Rattle.fsck.proofs.scan.names.has_bad_entry.Given as goal
use Rattle.fsck.specs.Form.{form_of}

abbrev pub invariant-loop-number : goal.invariant-loop-number
invariant-loop-number l = record {
  good : (e : ℕ) → e < l.number → is_bad_entry (form_of l.version) l.image.geometry (contents l.image) l.n e ≡ false;
  names : AreNames (form_of l.version) l.image l.n l.names.keys l.number;
}
