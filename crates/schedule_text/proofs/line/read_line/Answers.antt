use Rattle.std.proofs.Common.{sym, rules}
use Rattle.schedule_text.proofs.Events.{line_too_long}
use Rattle.schedule_text.proofs.line.read_line.Goals as goal

pub returns-in-Some-cut-2 : goal.returns-in-Some-cut-2
returns-in-Some-cut-2 c =
    sym (line_too_long c.args.line.now c.in-Some.rest.now c.in-Some-cut.second.now c.in-Some-cut-2.field-0.1.now c.in-Some.name.now c.in-Some-cut.first.now
    c.in-Some-cut-2.field-0.0.now c.in-Some.ensures.0 c.in-Some-cut.ensures.0 c.in-Some-cut-2.ensures.0 (search rules))
