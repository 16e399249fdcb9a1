use Rattle.std.proofs.Common.{◌≡◌, sym, ap, rules, arith}
use Rattle.fsck.specs.Findings.{is_misplaced}
use Rattle.volume.specs.Verdict.{place_limit}
use Rattle.image.specs.Contents.{contents}
use Rattle.image.proofs.Leasts.{first_least}
use Rattle.fsck.proofs.Directories.{no_directory, past_directories}
use Rattle.fsck.proofs.scan.homes.misplaced.Goals as goal
use Rattle.fsck.specs.Form.{form_of}

pub returns : goal.returns
returns c =
    let form = form_of c.args.version in
    let i = c.args.image.now in
    let e : c.geometry.result.inodes ≡ i.geometry.inodes = ap (λ g. g.inodes) c.geometry.ensures in
    first_least _ _ _ c.least_passing.ensures (is_misplaced form i.geometry (contents i)) (place_limit i.geometry) (omega arith)
    (λ k b h a. search rules) (λ k h. sym (no_directory i k _ (past_directories i k (omega arith))))
