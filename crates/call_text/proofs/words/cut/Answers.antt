use Rattle.std.proofs.Common.{arith}
use Rattle.std.proofs.lemmas.List.{take_rest}
use Rattle.std.proofs.lemmas.Grind.{common_steps}
use Rattle.call_text.proofs.Cutting.{parts_found, parts_none}
use Rattle.call_text.proofs.words.cut.Goals as goal

pub returns-in-Some : goal.returns-in-Some
returns-in-Some c =
    let is = c.in-Some.ensures in
    let found = parts_found c.args.separator c.args.text.now c.in-Some.end is.0 is.1 in
    rw take_rest (found, grind (arith, common_steps))

pub returns-in-None : goal.returns-in-None
returns-in-None c = parts_none c.args.separator c.args.text.now c.in-None.ensures
