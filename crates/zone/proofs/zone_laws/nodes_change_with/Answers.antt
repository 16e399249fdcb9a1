use Rattle.zone.proofs.Files.{nodes_change_with}
use Rattle.zone.proofs.zone_laws.nodes_change_with.Goals as goal

pub returns : goal.returns
returns c = nodes_change_with
