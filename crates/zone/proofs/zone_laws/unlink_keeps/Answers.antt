use Rattle.zone.proofs.Keeps.{unlink_keeps}
use Rattle.zone.proofs.zone_laws.unlink_keeps.Goals as goal

pub returns : goal.returns
returns c = unlink_keeps
