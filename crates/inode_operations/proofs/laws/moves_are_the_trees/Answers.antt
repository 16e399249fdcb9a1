use Rattle.std.proofs.Common.{refl}
use Rattle.inode_operations.proofs.Whole.{moved_is_moved}
use Rattle.inode_operations.proofs.laws.moves_are_the_trees.Goals as goal

pub returns-clause-moved : goal.returns-clause-moved
returns-clause-moved c = moved_is_moved

pub returns-clause-replaced : goal.returns-clause-replaced
returns-clause-replaced c = λ t now n new other. refl
