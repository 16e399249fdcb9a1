use Rattle.std.proofs.lemmas.List.{take_rest}
use Rattle.fields.proofs.NameLaws.{name_found, name_missing}
use Rattle.fields.proofs.fields.name_of.Goals as goal

pub returns-in-Some : goal.returns-in-Some
returns-in-Some c =
    let is = c.in-Some.ensures in
    let found = name_found c.args.bytes.now c.in-Some.end is.0 is.1 in
    rw take_rest found

pub returns-in-None : goal.returns-in-None
returns-in-None c = name_missing c.args.bytes.now c.in-None.ensures
