use Rattle.inode.proofs.laws.root_is_placed.Goals as goal
use Rattle.inode.proofs.Root.{root_is_placed}

pub returns : goal.returns
returns c = root_is_placed
