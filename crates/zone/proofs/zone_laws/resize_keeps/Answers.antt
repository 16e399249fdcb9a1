use Rattle.zone.proofs.Stay.{resize_keeps}
use Rattle.zone.proofs.zone_laws.resize_keeps.Goals as goal

pub returns : goal.returns
returns c = resize_keeps
