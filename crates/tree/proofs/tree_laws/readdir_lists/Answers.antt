use Rattle.tree.proofs.Listing.{readdir_lists}
use Rattle.tree.proofs.tree_laws.readdir_lists.Goals as goal

pub returns : goal.returns
returns c = readdir_lists
