use Rattle.std.proofs.Common.{sym}
use Rattle.call_text.proofs.TooLong.{line_too_long}
use Rattle.call_text.proofs.call.read_call.Goals as goal

pub returns-in-Some-cut-3 : goal.returns-in-Some-cut-3
returns-in-Some-cut-3 c =
    sym (line_too_long c.args.words.now c.in-Some.rest.now c.in-Some-cut.rest.now c.in-Some-cut-2.third.now c.in-Some.name.now c.in-Some-cut.first.now c.in-Some-cut-2.second.now
    c.in-Some-cut-3.field-0.0.now c.in-Some.ensures.0 c.in-Some-cut.ensures.0 c.in-Some-cut-2.ensures.0 c.in-Some-cut-3.field-0.1.now c.in-Some-cut-3.ensures.0)
