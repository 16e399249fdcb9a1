use Rattle.directory.proofs.Files.{write_sets_entry, write_sets_number, write_drops_entry, resize_drops_last}
use Rattle.directory.proofs.entry_laws.writes_set_entries.Goals as goal

pub returns-clause-write_sets_entry : goal.returns-clause-write_sets_entry
returns-clause-write_sets_entry c = write_sets_entry

pub returns-clause-write_sets_number : goal.returns-clause-write_sets_number
returns-clause-write_sets_number c = write_sets_number

pub returns-clause-write_drops_entry : goal.returns-clause-write_drops_entry
returns-clause-write_drops_entry c = write_drops_entry

pub returns-clause-resize_drops_last : goal.returns-clause-resize_drops_last
returns-clause-resize_drops_last c = resize_drops_last
