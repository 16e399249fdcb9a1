use Rattle.zone.proofs.Keeps.{link_keeps}
use Rattle.zone.proofs.zone_laws.link_keeps.Goals as goal

pub returns : goal.returns
returns c = link_keeps
