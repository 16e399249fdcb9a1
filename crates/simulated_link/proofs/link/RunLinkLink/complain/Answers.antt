use Rattle.std.proofs.Common.{◌∙◌, refl, ap, Bool, not, ◌||◌, ◌&&◌}
use Rattle.schedule.specs.declared.log.LogEntry.TheVariants as entry
use Rattle.schedule.specs.LogView.{said}
use Rattle.schedule.specs.Noted.{with_entry}
use Rattle.simulated_link.specs.Ruling.{is_fault, gives_up}
use Rattle.simulated_link.proofs.Going.{complains}
use Rattle.simulated_link.proofs.link.RunLinkLink.complain.Goals as goal

pub returns-clause-goes : goal.returns-clause-goes
returns-clause-goes g c =
    complains _ _ c.args.self.now.stage.reincarnation _ _ _ _ _ refl refl c.complain-ruling.ensures.after
    (c.owes-self.ensures
    ∙ ap (λ (x : Bool). c.args.self.now.owed || (x && not c.args.self.now.told && not c.args.self.now.log.over)) (c.gives_up.ensures ∙ ap gives_up c.complain-ruling.ensures.ruling))
    (c.note_complaint.ensures.said
    ∙ ap (λ (x : Bool). with_entry (entry.Complained c.args.about x) (said c.args.self.now.log)) (c.is_fault.ensures ∙ ap is_fault c.complain-ruling.ensures.ruling))
    c.note_complaint.ensures.over
