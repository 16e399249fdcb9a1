use Rattle.tree.proofs.AttributeCalls.{chmod_keeps, chown_keeps, utime_keeps}
use Rattle.tree.proofs.tree_laws.attribute_calls_keep.Goals as goal

pub returns-clause-chmod : goal.returns-clause-chmod
returns-clause-chmod c = chmod_keeps

pub returns-clause-chown : goal.returns-clause-chown
returns-clause-chown c = chown_keeps

pub returns-clause-utime : goal.returns-clause-utime
returns-clause-utime c = utime_keeps
