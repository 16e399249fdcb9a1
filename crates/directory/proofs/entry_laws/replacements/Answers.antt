use Rattle.directory.proofs.Rows.{replaced_names, replace_keeps, retargeted_names, reparented_names, reparent_keeps, renamed_onto, names_commute}
use Rattle.directory.proofs.entry_laws.replacements.Goals as goal

pub returns-clause-replaced_names : goal.returns-clause-replaced_names
returns-clause-replaced_names c = replaced_names

pub returns-clause-replace_keeps : goal.returns-clause-replace_keeps
returns-clause-replace_keeps c = replace_keeps

pub returns-clause-retargeted_names : goal.returns-clause-retargeted_names
returns-clause-retargeted_names c = retargeted_names

pub returns-clause-reparented_names : goal.returns-clause-reparented_names
returns-clause-reparented_names c = reparented_names

pub returns-clause-reparent_keeps : goal.returns-clause-reparent_keeps
returns-clause-reparent_keeps c = reparent_keeps

pub returns-clause-renamed_onto : goal.returns-clause-renamed_onto
returns-clause-renamed_onto c = renamed_onto

pub returns-clause-names_commute : goal.returns-clause-names_commute
returns-clause-names_commute c = names_commute
