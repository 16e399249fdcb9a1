use Rattle.std.proofs.Common.{◌∙◌, ap}
use Rattle.world.proofs.Standing.{handed_out, hands, out_live}
use Rattle.world.proofs.run_loop.turns.next_call.Goals as goal

pub returns-clause-runs : goal.returns-clause-runs
returns-clause-runs g c =
    handed_out g.L.Link.truth g.L.Ran.run _ _ _ _ _ _ _ c.link_mut.ensures.value
    (g.met.S.FileServer.is_there c.args.server.now c.next_call.new.self)
    (g.met.S.FileServer.stays _ _ (c.next_call.ensures.history ∙ ap g.L.Link.history c.link_mut.ensures.value))
    c.next_call.ensures.hands c.requires.idle.live c.requires.paid c.requires.idle.ended (λ l v marks. g.met.L.Ran.guarantees l v marks) c.next_call.ensures.truth

pub returns-clause-live : goal.returns-clause-live
returns-clause-live g c =
    out_live _ _ _ _ _ (g.met.S.FileServer.stays _ _ (c.next_call.ensures.history ∙ ap g.L.Link.history c.link_mut.ensures.value))
    (hands g.L.Ran.run _ _ _ _ _ c.link_mut.ensures.value (g.met.S.FileServer.is_there c.args.server.now c.next_call.new.self) c.next_call.ensures.hands)
    c.requires.idle
