use Rattle.zone.proofs.ZoneInodes.{changed_nodes}
use Rattle.zone.proofs.zone_laws.changed_nodes.Goals as goal

pub returns : goal.returns
returns c = changed_nodes
