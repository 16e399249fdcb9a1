use Rattle.directory.proofs.Rows.{counted_names, sorted_names, new_row}
use Rattle.directory.proofs.entry_laws.counts.Goals as goal

pub returns-clause-counted_names : goal.returns-clause-counted_names
returns-clause-counted_names c = counted_names

pub returns-clause-sorted_names : goal.returns-clause-sorted_names
returns-clause-sorted_names c = sorted_names

pub returns-clause-new_row : goal.returns-clause-new_row
returns-clause-new_row c = new_row
