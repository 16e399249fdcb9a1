use Rattle.std.proofs.Common.{◌∙◌, sym}
use Rattle.std.proofs.lemmas.Bool.{ne_eqb}
use Rattle.path.proofs.Dots.{no_dot}
use Rattle.path.proofs.read.is_dot.Goals as goal

pub returns-else-part-eq1 : goal.returns-else-part-eq1
returns-else-part-eq1 c = ne_eqb _ 1 c.if-part-eq1.false ∙ sym (no_dot _ c.if-part-eq1.false)
