use Rattle.fuse_nodes.proofs.Losing.{lost_lead_nowhere}
use Rattle.fuse_nodes.proofs.laws.lost_lead_nowhere.Goals as goal

pub returns : goal.returns
returns c = lost_lead_nowhere
