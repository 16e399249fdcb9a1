use Rattle.tree.proofs.RenameCall.{rename_keeps}
use Rattle.tree.proofs.tree_laws.rename_keeps.Goals as goal

pub returns : goal.returns
returns c = rename_keeps
