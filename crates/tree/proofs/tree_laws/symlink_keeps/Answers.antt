use Rattle.tree.proofs.SymlinkCall.{symlink_keeps}
use Rattle.tree.proofs.tree_laws.symlink_keeps.Goals as goal

pub returns : goal.returns
returns c = symlink_keeps
