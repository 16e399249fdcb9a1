use Rattle.std.proofs.Common.{refl, sym, ap, ◌∙◌, arith}
use Rattle.std.specs.Prelude.{not, ◌==◌}
use Rattle.std.proofs.lemmas.Bool.{and_left, and_right, and_from, eq-eqb, ne_eqb}
use Rattle.volume.specs.Findings.{lacks_zone_bit}
use Rattle.volume.specs.Verdict.{place_limit}
use Rattle.image.specs.Contents.{contents}
use Rattle.image.proofs.Leasts.{some_least, none_least}
use Rattle.image.proofs.Contents.{is_geometry}
use Rattle.fsck.proofs.structure.zone_bit.Goals as goal

pub returns-then-has_zone_bit : goal.returns-then-has_zone_bit
returns-then-has_zone_bit c =
    let i = c.args.image.now in
    none_least (lacks_zone_bit i.geometry (contents i)) (place_limit i.geometry)
    (λ k _. and_right (k == 0) _ (ap not (sym c.has_zone_bit.ensures ∙ c.if-has_zone_bit.true)))

pub returns-else-has_zone_bit : goal.returns-else-has_zone_bit
returns-else-has_zone_bit c =
    let i = c.args.image.now in
    let few = (is_geometry i).some_inode in
    some_least (lacks_zone_bit i.geometry (contents i)) (place_limit i.geometry) 0 (omega arith)
    (and_from (0 == 0) _ (eq-eqb 0 0 refl) (ap not (sym c.has_zone_bit.ensures ∙ c.if-has_zone_bit.false)))
    (λ k h. and_left (k == 0) _ (ne_eqb k 0 (λ e. absurd (omega arith))))
