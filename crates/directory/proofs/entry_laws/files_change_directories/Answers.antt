use Rattle.directory.proofs.Writes.{file_inserted, file_removed, file_last_removed, file_retargeted, file_renamed, file_reparented}
use Rattle.directory.proofs.entry_laws.files_change_directories.Goals as goal

pub returns-clause-file_inserted : goal.returns-clause-file_inserted
returns-clause-file_inserted c = file_inserted

pub returns-clause-file_removed : goal.returns-clause-file_removed
returns-clause-file_removed c = file_removed

pub returns-clause-file_last_removed : goal.returns-clause-file_last_removed
returns-clause-file_last_removed c = file_last_removed

pub returns-clause-file_retargeted : goal.returns-clause-file_retargeted
returns-clause-file_retargeted c = file_retargeted

pub returns-clause-file_renamed : goal.returns-clause-file_renamed
returns-clause-file_renamed c = file_renamed

pub returns-clause-file_reparented : goal.returns-clause-file_reparented
returns-clause-file_reparented c = file_reparented
