use Rattle.schedule_text.proofs.Events.{event_kept}
use Rattle.schedule_text.proofs.reading.read_schedule.Goals as goal

pub returns-clause-err : goal.returns-clause-err
returns-clause-err c = event_kept c.args.text.now c.in_ok-lines.lines.items c.in_ok-lines.ensures.ok (rw c.as_slice.ensures.value at c.in-Err.ensures.some)
