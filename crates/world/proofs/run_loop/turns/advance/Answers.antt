use Rattle.std.proofs.Common.{◌∙◌, ap}
use Rattle.world.proofs.Standing.{advanced, starved_aside}
use Rattle.world.proofs.run_loop.turns.advance.Goals as goal

pub returns-clause-awaits : goal.returns-clause-awaits
returns-clause-awaits g c =
    advanced g.L.Link.truth g.L.Ran.run _ _ _ _ _ _ _ c.link_mut.ensures.value
    (g.met.S.FileServer.is_there c.args.server.now c.aside.new.self)
    (g.met.S.FileServer.stays _ _ (c.aside.ensures.history ∙ ap g.L.Link.history c.link_mut.ensures.value))
    c.aside.ensures.asides c.aside.ensures.truth

pub returns-clause-starved : goal.returns-clause-starved
returns-clause-starved g c =
    starved_aside g.L.Ran.run _ _ _ _ (g.met.S.FileServer.is_there c.args.server.now c.aside.new.self) c.aside.ensures.asides
