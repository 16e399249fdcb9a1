use Rattle.std.proofs.Common.{map}
use Rattle.service_start.proofs.Runs.{has_run}
use Rattle.service_start.proofs.start.start_and_run.Goals as goal

pub returns-clause-ran : goal.returns-clause-ran
returns-clause-ran g c =
    has_run g.N.ServiceParameters.opening.media c.args.setup.now (map g.D.BlockDriver.state c.args.supply.items) c.args.prepared.range
    g.N.ServiceParameters.opening g.N.ServiceParameters.geometry
    (λ h v o. g.P.Program.gives c.args.program h v o) c.run_over.result c.requires.opening c.requires.geometry c.requires.prepared
    _ c.run_over.ensures.ran c.run_over.ensures.holds
