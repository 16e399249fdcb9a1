use Rattle.zone.proofs.Composite.{detaches_outer}
use Rattle.zone.proofs.zone_laws.detaches_outer.Goals as goal

pub returns : goal.returns
returns c = detaches_outer
