use Rattle.zone.proofs.Composite.{detaches_on}
use Rattle.zone.proofs.zone_laws.detaches_on.Goals as goal

pub returns : goal.returns
returns c = detaches_on
