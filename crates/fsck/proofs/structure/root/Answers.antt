use Rattle.std.proofs.Common.{refl, sym, ap, ◌∙◌, arith}
use Rattle.std.specs.Prelude.{not, ◌==◌}
use Rattle.std.proofs.lemmas.Bool.{and_left, and_right, and_from, eq-eqb, ne_eqb}
use Rattle.volume.specs.Findings.{lacks_root}
use Rattle.volume.specs.Verdict.{place_limit}
use Rattle.image.specs.Contents.{contents}
use Rattle.image.proofs.Leasts.{some_least, none_least}
use Rattle.image.proofs.Contents.{is_geometry}
use Rattle.fsck.proofs.structure.root.Goals as goal

pub returns-then-is_directory : goal.returns-then-is_directory
returns-then-is_directory c =
    let i = c.args.image.now in
    none_least (lacks_root i.geometry (contents i)) (place_limit i.geometry)
    (λ k _. and_right (k == 1) _ (ap not (sym c.is_directory.ensures ∙ c.if-is_directory.true)))

pub returns-else-is_directory : goal.returns-else-is_directory
returns-else-is_directory c =
    let i = c.args.image.now in
    let few = (is_geometry i).some_inode in
    some_least (lacks_root i.geometry (contents i)) (place_limit i.geometry) 1 (omega arith)
    (and_from (1 == 1) _ (eq-eqb 1 1 refl) (ap not (sym c.is_directory.ensures ∙ c.if-is_directory.false)))
    (λ k h. and_left (k == 1) _ (ne_eqb k 1 (λ e. absurd (omega arith))))
