use Rattle.directory.proofs.Directories.{inserted, removed, retargeted, renamed, reparented}
use Rattle.directory.proofs.entry_laws.directories_change.Goals as goal

pub returns-clause-inserted : goal.returns-clause-inserted
returns-clause-inserted c = inserted

pub returns-clause-removed : goal.returns-clause-removed
returns-clause-removed c = removed

pub returns-clause-retargeted : goal.returns-clause-retargeted
returns-clause-retargeted c = retargeted

pub returns-clause-renamed : goal.returns-clause-renamed
returns-clause-renamed c = renamed

pub returns-clause-reparented : goal.returns-clause-reparented
returns-clause-reparented c = reparented
