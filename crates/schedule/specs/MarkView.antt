-- A mark of a run's record, as definitions see it.
use Rattle.tree.specs.Answers.{answer_of}
use Rattle.records.specs.Marks as marks
use Rattle.records.specs.Marks.{Mark}
use Rattle.schedule.specs.declared.mark.RunMark.{RunMark}
use Rattle.schedule.specs.declared.mark.RunMark.TheVariants as run

abbrev pub mark_of : RunMark → Mark
mark_of (run.Started e) = marks.Started e
mark_of (run.Answered a) = marks.Answered a
mark_of run.Flush = marks.Flush
mark_of run.GaveUp = marks.GaveUp
mark_of (run.Took who now call reply) = marks.Took who now call (answer_of reply)
mark_of (run.Issued r e) = marks.Issued r e
mark_of (run.Fault e cause) = marks.Fault e cause
