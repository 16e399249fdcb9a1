use Rattle.zone.proofs.Keeps.{weaker}
use Rattle.zone.proofs.zone_laws.weaker.Goals as goal

pub returns : goal.returns
returns c = weaker
