use Rattle.std.proofs.Common.{◌≡◌, false, sym, ap, ◌∙◌}
use Rattle.std.specs.Prelude.{◌||◌}
use lib.Pointwise.{pointwise}
use lib.Dec.{eqb}
use Rattle.tree.specs.Names.{same_name, dot, dot_dot}
use Rattle.image.proofs.Texts.{same_names}
use Rattle.image.proofs.entry.is_dots.Goals as goal

pub returns-else-eq : goal.returns-else-eq
returns-else-eq c =
    let first = sym (same_names c.args.name.now dot) in
    let second = same_names c.args.name.now dot_dot in
    let out : same_name c.args.name.now dot ≡ false = first ∙ sym (ap (pointwise eqb c.args.name.now) c.as_slice.ensures) ∙ sym c.eq.ensures ∙ c.if-eq.false in
    c.eq-else-eq.ensures ∙ ap (pointwise eqb c.args.name.now) c.as_slice-else-eq.ensures ∙ second
    ∙ sym (ap (λ b. b || same_name c.args.name.now dot_dot) out)
