use Rattle.std.proofs.Common.{◌≡◌, ◌<◌, ℕ, false}
use Rattle.image.specs.Contents.{contents}
use Rattle.fsck.specs.Form.{form_of}
use Rattle.fsck.specs.Findings.{is_lost}
use Rattle.fsck.proofs.scan.dots.has_bad_target.Given as goal

abbrev pub invariant-loop-number : goal.invariant-loop-number
invariant-loop-number l = (e : ℕ) → e < l.number → is_lost (form_of l.version) l.image.geometry (contents l.image) l.n e ≡ false
