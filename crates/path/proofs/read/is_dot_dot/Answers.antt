use Rattle.std.proofs.Common.{sym}
use Rattle.path.proofs.Dots.{no_dot_dot}
use Rattle.path.proofs.read.is_dot_dot.Goals as goal

pub returns-then-part-ne2 : goal.returns-then-part-ne2
returns-then-part-ne2 c = sym (no_dot_dot _ c.if-part-ne2.true)
