use Rattle.tree.proofs.CallsKeep.{link_keeps}
use Rattle.tree.proofs.tree_laws.link_keeps.Goals as goal

pub returns : goal.returns
returns c = link_keeps
