use Rattle.std.proofs.Common.{◌≡◌, ap, rules, arith}
use Rattle.std.proofs.lemmas.Bool.{and_left}
use Rattle.volume.specs.Nodes.{is_marked}
use Rattle.fsck.specs.Findings.{has_bad_size}
use Rattle.volume.specs.Verdict.{place_limit}
use Rattle.image.specs.Contents.{contents}
use Rattle.image.proofs.Leasts.{first_least}
use Rattle.image.proofs.Contents.{out_of_range}
use Rattle.fsck.proofs.structure.bad_size.Goals as goal
use Rattle.fsck.specs.Form.{form_of}

pub returns : goal.returns
returns c =
    let form = form_of c.args.version in
    let i = c.args.image.now in
    let e : c.geometry.result.inodes ≡ i.geometry.inodes = ap (λ g. g.inodes) c.geometry.ensures in
    first_least _ _ _ c.least_passing.ensures (has_bad_size form i.geometry (contents i)) (place_limit i.geometry) (omega arith)
    (λ k b h a. search rules) (λ k h. and_left (is_marked i.geometry (contents i) k) _ (out_of_range i k (omega arith)))
