use Rattle.zone.proofs.Composite.{detached_nodes}
use Rattle.zone.proofs.zone_laws.detached_nodes.Goals as goal

pub returns : goal.returns
returns c = detached_nodes
