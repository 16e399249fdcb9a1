use Rattle.directory.proofs.Directories.{directory_is_row, row_is_directory, empty_is_two, whole_again, whole_still, new_directory}
use Rattle.directory.proofs.entry_laws.directories_are_rows.Goals as goal

pub returns-clause-directory_is_row : goal.returns-clause-directory_is_row
returns-clause-directory_is_row c = directory_is_row

pub returns-clause-row_is_directory : goal.returns-clause-row_is_directory
returns-clause-row_is_directory c = row_is_directory

pub returns-clause-empty_is_two : goal.returns-clause-empty_is_two
returns-clause-empty_is_two c = empty_is_two

pub returns-clause-whole_again : goal.returns-clause-whole_again
returns-clause-whole_again c = whole_again

pub returns-clause-whole_still : goal.returns-clause-whole_still
returns-clause-whole_still c = whole_still

pub returns-clause-new_directory : goal.returns-clause-new_directory
returns-clause-new_directory c = new_directory
