use Rattle.zone.proofs.Composite.{attached_inner}
use Rattle.zone.proofs.zone_laws.attached_inner.Goals as goal

pub returns : goal.returns
returns c = attached_inner
