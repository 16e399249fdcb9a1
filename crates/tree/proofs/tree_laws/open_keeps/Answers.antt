use Rattle.tree.proofs.OpenCall.{open_keeps}
use Rattle.tree.proofs.tree_laws.open_keeps.Goals as goal

pub returns : goal.returns
returns c = open_keeps
