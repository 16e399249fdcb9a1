use Rattle.zone.proofs.Composite.{attaches_outer}
use Rattle.zone.proofs.zone_laws.attaches_outer.Goals as goal

pub returns : goal.returns
returns c = attaches_outer
