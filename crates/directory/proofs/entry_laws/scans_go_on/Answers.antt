use Rattle.directory.proofs.Rows.{none_at_first, none_so_far, next_name}
use Rattle.directory.proofs.entry_laws.scans_go_on.Goals as goal

pub returns-clause-none_at_first : goal.returns-clause-none_at_first
returns-clause-none_at_first c = none_at_first

pub returns-clause-none_so_far : goal.returns-clause-none_so_far
returns-clause-none_so_far c = none_so_far

pub returns-clause-next_name : goal.returns-clause-next_name
returns-clause-next_name c = next_name
