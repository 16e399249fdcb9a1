use Rattle.directory.proofs.Rows.{removed_names, remove_keeps}
use Rattle.directory.proofs.entry_laws.removals.Goals as goal

pub returns-clause-removed_names : goal.returns-clause-removed_names
returns-clause-removed_names c = removed_names

pub returns-clause-remove_keeps : goal.returns-clause-remove_keeps
returns-clause-remove_keeps c = remove_keeps
