use Rattle.zone.proofs.Room.{nodes_take_marked}
use Rattle.zone.proofs.zone_laws.nodes_take_marked.Goals as goal

pub returns : goal.returns
returns c = nodes_take_marked
