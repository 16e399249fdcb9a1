use Rattle.zone.proofs.ZoneInodes.{four_bytes}
use Rattle.zone.proofs.zone_laws.four_bytes.Goals as goal

pub returns : goal.returns
returns c = four_bytes
