use Rattle.tree.proofs.Closed.{close_keeps}
use Rattle.tree.proofs.tree_laws.close_keeps.Goals as goal

pub returns : goal.returns
returns c = close_keeps
