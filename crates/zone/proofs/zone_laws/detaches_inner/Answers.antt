use Rattle.zone.proofs.Composite.{detaches_inner}
use Rattle.zone.proofs.zone_laws.detaches_inner.Goals as goal

pub returns : goal.returns
returns c = detaches_inner
