use Rattle.zone.proofs.Composite.{attached_nodes}
use Rattle.zone.proofs.zone_laws.attached_nodes.Goals as goal

pub returns : goal.returns
returns c = attached_nodes
