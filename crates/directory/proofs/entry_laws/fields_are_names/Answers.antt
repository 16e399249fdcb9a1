use Rattle.directory.proofs.Text.{field_is_name, name_is_field}
use Rattle.directory.proofs.Rows.{all_bytes, other_byte}
use Rattle.directory.proofs.entry_laws.fields_are_names.Goals as goal

pub returns-clause-field_is_name : goal.returns-clause-field_is_name
returns-clause-field_is_name c = field_is_name

pub returns-clause-name_is_field : goal.returns-clause-name_is_field
returns-clause-name_is_field c = name_is_field

pub returns-clause-all_bytes : goal.returns-clause-all_bytes
returns-clause-all_bytes c = all_bytes

pub returns-clause-other_byte : goal.returns-clause-other_byte
returns-clause-other_byte c = other_byte
