use Rattle.std.proofs.Common.{◌≡◌}
use Rattle.serve.proofs.StoppingLaws.{image_given}
use Rattle.mount_service.proofs.program.came_of.Goals as goal

pub returns-clause-image : goal.returns-clause-image
returns-clause-image g c =
    image_given g.L.Link g.N.ServiceParameters.geometry g.N.ServiceParameters.opening c.args.own.knows.seen (λ left. left ≡ c.args.service)
    c.stop_after.result c.in_ok-last_sync.last_sync c.in_ok-last_sync.image c.in_ok-last_sync.ensures.image c.stop_after.ensures.image
    c.stop_after.ensures.refused
