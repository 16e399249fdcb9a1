use Rattle.call_text.proofs.ScriptLines.{more_than_three}
use Rattle.call_text.proofs.scripts.timed.three_words.Goals as goal

pub returns-in-Some : goal.returns-in-Some
returns-in-Some c =
    more_than_three c.args.line.now c.in_ok-first.rest.now c.in_ok-second.third.now c.in-Some.field-0.1.now c.in_ok-first.first.now c.in_ok-second.second.now c.in-Some.field-0.0.now
    c.in_ok-first.ensures.0 c.in_ok-second.ensures.0 c.in-Some.ensures.0
