use Rattle.zone.proofs.Keeps.{full_again}
use Rattle.zone.proofs.zone_laws.full_again.Goals as goal

pub returns : goal.returns
returns c = full_again
