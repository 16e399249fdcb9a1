use Rattle.volume.proofs.CleanTree.{clean_is_a_tree}
use Rattle.volume.proofs.volume_laws.clean_is_a_tree.Goals as goal

pub returns : goal.returns
returns c = clean_is_a_tree
