use Rattle.std.proofs.Common.{◌∙◌}
use Rattle.output.proofs.Writes.{on_err}
use Rattle.reply_text.specs.TranscriptText.{unanswered_text}
use Rattle.reply_text.proofs.Lines.{nothing_written, unanswered_some}
use Rattle.reply_text.proofs.write.write_unanswered.Goals as goal

pub returns-in_err-line-clause-err : goal.returns-in_err-line-clause-err
returns-in_err-line-clause-err g c = on_err _ _ (nothing_written _ (unanswered_text c.args.unanswered) (unanswered_some c.args.unanswered))

pub returns-clause-ok : goal.returns-clause-ok
returns-clause-ok g c =
    let line = c.as_bytes.ensures.value ∙ c.in_ok-line.ensures.ok in rw line at c.write_text.ensures.ok

pub returns-clause-err : goal.returns-clause-err
returns-clause-err g c =
    let line = c.as_bytes.ensures.value ∙ c.in_ok-line.ensures.ok in rw line at c.write_text.ensures.err
