use Rattle.std.proofs.Common.{arith, sym, ◌∙◌}
use Rattle.world.proofs.Starting.{idle_at_first, sound_after, work_after, runs_all}
use Rattle.world.proofs.run_loop.run.run_all.Goals as goal

pub run_out-requires-clause-few : goal.run_out-requires-clause-few
run_out-requires-clause-few g c =
    work_after _ _ _ _ (g.met.L.Ran.goes _ _ c.absorb.ensures.goes) (omega (arith, c.absorb.ensures.absorbed)) c.requires.few

pub run_out-requires-clause-idle : goal.run_out-requires-clause-idle
run_out-requires-clause-idle g c =
    idle_at_first _ _ _ _ _ _ c.absorb.ensures.keeps (g.met.L.Ran.goes _ _ c.absorb.ensures.goes) c.requires.live c.requires.first
    (g.met.S.FileServer.tells _ ∙ g.met.L.Ran.tells _) (g.met.S.FileServer.tells _ ∙ g.met.L.Ran.tells _)

pub run_out-requires-clause-sound : goal.run_out-requires-clause-sound
run_out-requires-clause-sound g c = sound_after _ _ (g.met.L.Ran.goes _ _ c.absorb.ensures.goes) c.requires.first

pub returns-clause-plays : goal.returns-clause-plays
returns-clause-plays g c =
    runs_all _ _ _ _ _ _ _ _ _ c.absorb.ensures.keeps (g.met.L.Ran.goes _ _ c.absorb.ensures.goes) c.requires.first
    (sym (g.met.L.Ran.tells _) ∙ c.absorb.ensures.silent (λ e. cc) c.requires.idle ∙ g.met.L.Ran.tells _)
    (g.met.S.FileServer.tells _ ∙ g.met.L.Ran.tells _) (g.met.S.FileServer.tells _ ∙ g.met.L.Ran.tells _)
    c.in_ok-unanswered.ensures.out
