use Rattle.tree.proofs.OpenFileCalls.{seek_keeps, read_keeps, dup_keeps}
use Rattle.tree.proofs.tree_laws.position_calls_keep.Goals as goal

pub returns-clause-seek : goal.returns-clause-seek
returns-clause-seek c = seek_keeps

pub returns-clause-read : goal.returns-clause-read
returns-clause-read c = read_keeps

pub returns-clause-dup : goal.returns-clause-dup
returns-clause-dup c = dup_keeps
