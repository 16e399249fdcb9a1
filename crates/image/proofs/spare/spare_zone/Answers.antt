use Rattle.std.proofs.Common.{◌≡◌, ◌≤◌, ◌+◌, ℕ, Bool, false, ap, rules, arith}
use Rattle.volume.specs.Findings.{has_spare_zone}
use Rattle.volume.specs.Verdict.{place_limit}
use Rattle.image.specs.Contents.{contents}
use Rattle.image.proofs.Leasts.{first_least}
use Rattle.image.proofs.Contents.{out_of_range}
use Rattle.image.proofs.Spares.{unmarked_spare}
use Rattle.image.proofs.spare.spare_zone.Goals as goal

pub returns : goal.returns
returns c =
    let i = c.args.image.now in
    let e : c.geometry.result.inodes ≡ i.geometry.inodes = ap (λ g. g.inodes) c.geometry.ensures in
    first_least _ _ _ c.least_passing.ensures (has_spare_zone i.geometry (contents i)) (place_limit i.geometry) (omega arith)
    (λ k b h a. search rules) (λ k h. unmarked_spare i k (out_of_range i k (omega arith)))
