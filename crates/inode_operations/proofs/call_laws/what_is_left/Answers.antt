use Rattle.inode_operations.proofs.CallLawsEnding.{left_is_left, put_is_left}
use Rattle.inode_operations.proofs.call_laws.what_is_left.Goals as goal

pub returns-clause-left : goal.returns-clause-left
returns-clause-left c = left_is_left

pub returns-clause-put : goal.returns-clause-put
returns-clause-put c = put_is_left
