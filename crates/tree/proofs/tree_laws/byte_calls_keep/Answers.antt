use Rattle.tree.proofs.ByteCalls.{write_keeps, truncate_keeps}
use Rattle.tree.proofs.tree_laws.byte_calls_keep.Goals as goal

pub returns-clause-write : goal.returns-clause-write
returns-clause-write c = write_keeps

pub returns-clause-truncate : goal.returns-clause-truncate
returns-clause-truncate c = truncate_keeps
