use Rattle.inode_operations.proofs.Asked.{move_to_may_be_made}
use Rattle.inode_operations.proofs.laws.moves_may_be_made.Goals as goal

pub returns : goal.returns
returns c = move_to_may_be_made
