use Rattle.output.proofs.Writes.{part_of_whole, on_err, second_ok, second_err}
use Rattle.reply_text.specs.TranscriptText.{marks_text, unanswered_text}
use Rattle.reply_text.proofs.write.write_transcript.Goals as goal

pub returns-in_err-write_marks-clause-err : goal.returns-in_err-write_marks-clause-err
returns-in_err-write_marks-clause-err g c = on_err _ _ (part_of_whole _ _ _ _ c.in_err-write_marks.ensures.err)

pub returns-clause-ok : goal.returns-clause-ok
returns-clause-ok g c =
    let out = g.W.Write.contents in
    second_ok c.write_unanswered.result (out c.args.to.now) (out c.write_marks.new.to) (out c.write_unanswered.new.to)
    (marks_text g.M.AsMark.mark c.args.marks.now) (unanswered_text c.args.unanswered) c.in_ok-write_marks.ensures.ok
    c.write_unanswered.ensures.ok

pub returns-clause-err : goal.returns-clause-err
returns-clause-err g c =
    let out = g.W.Write.contents in
    second_err c.write_unanswered.result (out c.args.to.now) (out c.write_marks.new.to) (out c.write_unanswered.new.to)
    (marks_text g.M.AsMark.mark c.args.marks.now) (unanswered_text c.args.unanswered) c.in_ok-write_marks.ensures.ok
    c.write_unanswered.ensures.err
