use Rattle.tree.proofs.SameName.{rename_of_same_stays}
use Rattle.tree.proofs.tree_laws.rename_of_same_stays.Goals as goal

pub returns : goal.returns
returns c = rename_of_same_stays
