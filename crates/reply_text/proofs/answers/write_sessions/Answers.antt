use Rattle.output.proofs.Writes.{appends_more, part_of_more, on_err}
use Rattle.reply_text.specs.Answers.{session_text}
use Rattle.reply_text.proofs.Parts.{text_next, text_split}
use Rattle.reply_text.proofs.answers.write_sessions.Goals as goal

pub returns-in_err-write_session-clause-err : goal.returns-in_err-write_session-clause-err
returns-in_err-write_session-clause-err g c =
    let all = c.args.sessions.now in
    let at = c.loop-session.session-index in
    on_err _ _
    (part_of_more _ _ _ _ _ _ _ (text_split session_text all at c.session-item.result c.loop-session-test.true c.session-item.is)
    c.loop-session.invariant c.in_err-write_session.ensures.err)

pub loop-session-preserved : goal.loop-session-preserved
loop-session-preserved g c =
    let all = c.args.sessions.now in
    let at = c.loop-session.session-index in
    let h = appends_more _ _ _ _ _ c.loop-session.invariant c.in_ok-write_session.ensures.ok in
    rw (text_next session_text all at c.session-item.result c.loop-session-test.true c.session-item.is) h
