use Rattle.zone.proofs.Files.{nodes_change_at}
use Rattle.zone.proofs.zone_laws.nodes_change_at.Goals as goal

pub returns : goal.returns
returns c = nodes_change_at
