use Rattle.zone.proofs.Stay.{write_keeps}
use Rattle.zone.proofs.zone_laws.write_keeps.Goals as goal

pub returns : goal.returns
returns c = write_keeps
