use Rattle.std.proofs.Common.{◌≡◌, ◌<◌, ℕ, false}
use Rattle.fsck.specs.Findings.{has_bad_entry}
use Rattle.image.specs.Contents.{contents}
use Rattle.fsck.proofs.scan.names.bad_entry.Given as goal
use Rattle.fsck.specs.Form.{form_of}

abbrev pub invariant-loop-n : goal.invariant-loop-n
invariant-loop-n l = (k : ℕ) → k < l.n → has_bad_entry (form_of l.version) l.image.geometry (contents l.image) k ≡ false
