use Rattle.std.proofs.Common.{◌∙◌}
use Rattle.world.proofs.Standing.{handed, handed_idle, handed_one, none_came, none_came_idle, none_came_one}
use Rattle.world.proofs.run_loop.turns.run_event.Goals as goal

pub returns-in-Some-clause-runs : goal.returns-in-Some-clause-runs
returns-in-Some-clause-runs g c =
    handed _ _ _ _ _ _ _ _ _ _ _ c.in-Some.is c.absorb.ensures.keeps (g.met.L.Ran.goes _ _ c.absorb.ensures.goes) c.in_ok-message.ensures.awaits
    c.requires.idle c.requires.left (λ v marks. g.met.L.Ran.guarantees _ v marks) (λ v marks. g.met.L.Ran.guarantees _ v marks)
    (g.met.S.FileServer.tells _ ∙ g.met.L.Ran.tells _) (g.met.S.FileServer.tells _ ∙ g.met.L.Ran.tells _)

pub returns-in-Some-clause-idle : goal.returns-in-Some-clause-idle
returns-in-Some-clause-idle g c =
    handed_idle _ _ _ _ _ _ _ _ _ _ _ c.absorb.ensures.keeps (g.met.L.Ran.goes _ _ c.absorb.ensures.goes) c.in_ok-message.ensures.awaits
    c.requires.idle (g.met.S.FileServer.tells _ ∙ g.met.L.Ran.tells _) (g.met.S.FileServer.tells _ ∙ g.met.L.Ran.tells _)

pub returns-in-Some-clause-one : goal.returns-in-Some-clause-one
returns-in-Some-clause-one g c =
    handed_one _ _ _ _ _ _ _ _ _ _ _ c.absorb.ensures.keeps (g.met.L.Ran.goes _ _ c.absorb.ensures.goes) c.in_ok-message.ensures.awaits
    c.requires.idle (g.met.S.FileServer.tells _ ∙ g.met.L.Ran.tells _) (g.met.S.FileServer.tells _ ∙ g.met.L.Ran.tells _)

pub returns-in_default-clause-runs : goal.returns-in_default-clause-runs
returns-in_default-clause-runs g c =
    none_came _ _ _ _ _ _ _ c.in_default.is c.in_ok-message.ensures.awaits c.requires.idle c.requires.left (λ v marks. g.met.L.Ran.guarantees _ v marks) (λ v marks. g.met.L.Ran.guarantees _ v marks)

pub returns-in_default-clause-idle : goal.returns-in_default-clause-idle
returns-in_default-clause-idle g c = none_came_idle _ _ _ _ _ _ _ c.in_ok-message.ensures.awaits c.requires.idle

pub returns-in_default-clause-one : goal.returns-in_default-clause-one
returns-in_default-clause-one g c = none_came_one _ _ _ _ _ _ _ c.in_ok-message.ensures.awaits
