use Rattle.directory.proofs.Rows.{inserted_names, insert_keeps}
use Rattle.directory.proofs.entry_laws.inserts.Goals as goal

pub returns-clause-inserted_names : goal.returns-clause-inserted_names
returns-clause-inserted_names c = inserted_names

pub returns-clause-insert_keeps : goal.returns-clause-insert_keeps
returns-clause-insert_keeps c = insert_keeps
