use Rattle.zone.proofs.Composite.{attaches_inner}
use Rattle.zone.proofs.zone_laws.attaches_inner.Goals as goal

pub returns : goal.returns
returns c = attaches_inner
