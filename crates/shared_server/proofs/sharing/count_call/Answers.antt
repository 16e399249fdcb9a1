use Rattle.shared_server.proofs.SharingLaws.{same_over}
use Rattle.shared_server.proofs.sharing.count_call.Goals as goal

pub returns-clause-same : goal.returns-clause-same
returns-clause-same g c = same_over g.L.Link g.S.Serve.serving g.S.FileServer.line g.S.FileServer.is_ready g.L.Supplied.runs_on _ _ _ _
    c.link_mut.ensures.value (g.met.S.FileServer.is_there c.args.server.now c.count_call.new.self)
    (λ told. g.met.S.FileServer.stays _ _ told)
    (λ told room budget. g.met.S.FileServer.stays_ready _ _ told room budget)
    c.count_call.ensures.same
