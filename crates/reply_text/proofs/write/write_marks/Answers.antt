use Rattle.std.proofs.Common.{◌∙◌, ap}
use Rattle.output.proofs.Writes.{appends_more, part_of_more, on_err}
use Rattle.reply_text.specs.TranscriptText.{mark_line}
use Rattle.reply_text.proofs.Lines.{part_before, text_next, text_split}
use Rattle.reply_text.proofs.write.write_marks.Goals as goal

pub returns-in_err-make_line-clause-err : goal.returns-in_err-make_line-clause-err
returns-in_err-make_line-clause-err g c =
    on_err _ _
    (part_before g.M.AsMark.mark _ _ c.args.marks.now c.loop-marked.marked-index c.marked-item.result c.loop-marked-test.true
    c.marked-item.is c.loop-marked.invariant)

pub returns-in_err-write_text-clause-err : goal.returns-in_err-write_text-clause-err
returns-in_err-write_text-clause-err g c =
    let marks = c.args.marks.now in
    let at = c.loop-marked.marked-index in
    let line = c.as_bytes.ensures.value ∙ c.in_ok-make_line.ensures ∙ ap mark_line c.as_mark.ensures in
    on_err _ _
    (part_of_more _ _ _ _ _ _ _ (text_split g.M.AsMark.mark marks at c.marked-item.result c.loop-marked-test.true c.marked-item.is)
    c.loop-marked.invariant (rw line at c.in_err-write_text.ensures.err))

pub loop-marked-preserved : goal.loop-marked-preserved
loop-marked-preserved g c =
    let marks = c.args.marks.now in
    let at = c.loop-marked.marked-index in
    let line = c.as_bytes.ensures.value ∙ c.in_ok-make_line.ensures ∙ ap mark_line c.as_mark.ensures in
    let h = appends_more _ _ _ _ _ c.loop-marked.invariant (rw line at c.in_ok-write_text.ensures.ok) in
    rw (text_next g.M.AsMark.mark marks at c.marked-item.result c.loop-marked-test.true c.marked-item.is) h
