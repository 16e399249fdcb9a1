use Rattle.zone.proofs.Composite.{attached_outer}
use Rattle.zone.proofs.zone_laws.attached_outer.Goals as goal

pub returns : goal.returns
returns c = attached_outer
