use Rattle.std.proofs.Common.{◌≡◌, ◌≤◌, ◌+◌, ℕ, Bool, false, ap, sym, rules, arith}
use Rattle.volume.specs.Findings.{is_used_twice}
use Rattle.volume.specs.Verdict.{place_limit}
use Rattle.image.specs.Contents.{contents}
use Rattle.image.proofs.Leasts.{first_least}
use Rattle.image.proofs.Counting.{past_zones}
use Rattle.image.proofs.uses.used_twice.Goals as goal

pub returns : goal.returns
returns c =
    let i = c.args.image.now in
    let e : c.geometry.result.zones ≡ i.geometry.zones = ap (λ g. g.zones) c.geometry.ensures in
    first_least _ _ _ c.least_passing.ensures (is_used_twice i.geometry (contents i)) (place_limit i.geometry) (omega arith)
    (λ k b h a. search rules) (λ k h. past_zones i k _ (omega arith))
