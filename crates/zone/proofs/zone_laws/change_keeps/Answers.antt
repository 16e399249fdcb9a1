use Rattle.zone.proofs.ZoneInodes.{change_keeps}
use Rattle.zone.proofs.zone_laws.change_keeps.Goals as goal

pub returns : goal.returns
returns c = change_keeps
