use Rattle.reply_text.specs.Answers.{number_text, outcomes_text}
use Rattle.output.proofs.Writes.{part_of_whole, on_err, second_ok, second_err}
use Rattle.reply_text.proofs.answers.write_session.Goals as goal

pub returns-in_err-write_number-clause-err : goal.returns-in_err-write_number-clause-err
returns-in_err-write_number-clause-err g c = on_err _ _ (part_of_whole _ _ _ _ c.in_err-write_number.ensures.err)

pub returns-clause-ok : goal.returns-clause-ok
returns-clause-ok g c =
    let session = c.args.session.now in
    second_ok c.write_outcomes.result (g.W.Write.contents c.args.to.now) (g.W.Write.contents c.write_number.new.to)
    (g.W.Write.contents c.write_outcomes.new.to) (number_text session.number) (outcomes_text session.outcomes.items)
    c.in_ok-write_number.ensures.ok c.write_outcomes.ensures.ok

pub returns-clause-err : goal.returns-clause-err
returns-clause-err g c =
    let session = c.args.session.now in
    second_err c.write_outcomes.result (g.W.Write.contents c.args.to.now) (g.W.Write.contents c.write_number.new.to)
    (g.W.Write.contents c.write_outcomes.new.to) (number_text session.number) (outcomes_text session.outcomes.items)
    c.in_ok-write_number.ensures.ok c.write_outcomes.ensures.err
