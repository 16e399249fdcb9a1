use Rattle.std.proofs.Common.{◌∙◌, refl, ap}
use Rattle.message.specs.declared.Incoming.TheVariants as incoming
use Rattle.reincarnate.specs.Watch.{driver}
use Rattle.schedule.specs.LogView.{said}
use Rattle.schedule.specs.Noted.{with_entry}
use Rattle.schedule.specs.declared.log.LogEntry.TheVariants as entry
use Rattle.simulated_link.proofs.MovingLaws.{opened_true}
use Rattle.simulated_link.proofs.run.RunLink.new.Goals as goal

pub returns-clause-truth : goal.returns-clause-truth
returns-clause-truth g c = λ v on is ready.
    opened_true v _ _ _ _ _ _ on is ready
    (c.note_handed.ensures.said ∙ ap (with_entry (entry.Handed (incoming.Started (driver 1)))) c.in_ok-log.ensures.said) refl
    (c.in_ok-new.ensures.opens (said c.note_handed.new.self))
