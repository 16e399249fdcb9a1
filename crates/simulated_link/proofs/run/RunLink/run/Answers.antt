use Rattle.std.proofs.Common.{◌∙◌, refl}
use Rattle.simulated_link.proofs.MovingLaws.{runs_event}
use Rattle.simulated_link.proofs.run.RunLink.run.Goals as goal

pub returns-clause-plays : goal.returns-clause-plays
returns-clause-plays g c =
    runs_event _ _ _ _ _ c.requires.live c.requires.paid c.event_at-event.ensures c.args.self.now.stage.latest
    c.note_event.ensures.said c.run.ensures.plays c.wait.ensures refl refl refl refl
    (c.run.ensures.over ∙ c.note_event.ensures.over) refl
