use Rattle.tree.proofs.CallsKeep.{mkdir_keeps, rmdir_keeps}
use Rattle.tree.proofs.tree_laws.directory_calls_keep.Goals as goal

pub returns-clause-mkdir : goal.returns-clause-mkdir
returns-clause-mkdir c = mkdir_keeps

pub returns-clause-rmdir : goal.returns-clause-rmdir
returns-clause-rmdir c = rmdir_keeps
