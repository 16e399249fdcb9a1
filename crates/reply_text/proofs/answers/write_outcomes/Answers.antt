use Rattle.std.proofs.Common.{◌<◌, ◌∙◌, ◌∷◌, [], length, get_or, arith, length-append}
use Rattle.std.proofs.lemmas.List.{get_or_default}
use Rattle.output.proofs.Writes.{appends_more, part_of_more, on_err}
use Rattle.tree.specs.declared.Outcome.TheVariants.{Cut}
use Rattle.reply_text.specs.Text.{outcome_text}
use Rattle.reply_text.specs.Answers.{line_text}
use Rattle.reply_text.proofs.Parts.{part_before, text_next, text_split}
use Rattle.reply_text.proofs.Told.{line_told}
use Rattle.reply_text.proofs.answers.write_outcomes.Goals as goal

pub returns-in_err-make_line-clause-err : goal.returns-in_err-make_line-clause-err
returns-in_err-make_line-clause-err g c =
    let all = c.args.outcomes.now.items in
    let at = c.loop-at.at in
    let inside : at < length all = omega (arith, c.loop-at-test.true, c.len-at-end.ensures) in
    let here = get_or all at Cut in
    on_err _ _
    (part_before line_text _ _ all at here inside (get_or_default all at Cut here inside)
    (omega (arith, length-append (outcome_text here) (10 ∷ []))) c.loop-at.invariant)

pub returns-in_err-write_text-clause-err : goal.returns-in_err-write_text-clause-err
returns-in_err-write_text-clause-err g c =
    let all = c.args.outcomes.now.items in
    let at = c.loop-at.at in
    let inside : at < length all = omega (arith, c.loop-at-test.true, c.len-at-end.ensures) in
    let here = get_or all at Cut in
    let line = c.as_bytes.ensures.value ∙ c.in_ok-make_line.ensures ∙ line_told all at _ c.get.ensures in
    on_err _ _
    (part_of_more _ _ _ _ _ _ _ (text_split line_text all at here inside (get_or_default all at Cut here inside))
    c.loop-at.invariant (rw line at c.in_err-write_text.ensures.err))

pub loop-at-preserved : goal.loop-at-preserved
loop-at-preserved g c =
    let all = c.args.outcomes.now.items in
    let at = c.loop-at.at in
    let inside : at < length all = omega (arith, c.loop-at-test.true, c.len-at-end.ensures) in
    let here = get_or all at Cut in
    let line = c.as_bytes.ensures.value ∙ c.in_ok-make_line.ensures ∙ line_told all at _ c.get.ensures in
    let h = appends_more _ _ _ _ _ c.loop-at.invariant (rw line at c.in_ok-write_text.ensures.ok) in
    rw (text_next line_text all at here inside (get_or_default all at Cut here inside)) h
