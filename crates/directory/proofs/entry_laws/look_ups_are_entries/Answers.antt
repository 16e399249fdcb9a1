use Rattle.directory.proofs.Rows.{found_at, no_entry, none_has_it, entry_of_name}
use Rattle.directory.proofs.entry_laws.look_ups_are_entries.Goals as goal

pub returns-clause-found_entry : goal.returns-clause-found_entry
returns-clause-found_entry c = found_at

pub returns-clause-no_entry : goal.returns-clause-no_entry
returns-clause-no_entry c = no_entry

pub returns-clause-none_has_it : goal.returns-clause-none_has_it
returns-clause-none_has_it c = none_has_it

pub returns-clause-entry_of_name : goal.returns-clause-entry_of_name
returns-clause-entry_of_name c = entry_of_name
