use Rattle.tree.proofs.Unlinked.{unlink_keeps}
use Rattle.tree.proofs.tree_laws.unlink_keeps.Goals as goal

pub returns : goal.returns
returns c = unlink_keeps
