use Rattle.zone.proofs.Composite.{unlinked_above}
use Rattle.zone.proofs.zone_laws.unlinked_above.Goals as goal

pub returns : goal.returns
returns c = unlinked_above
