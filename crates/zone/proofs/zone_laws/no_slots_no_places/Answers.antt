use Rattle.zone.proofs.ZoneInodes.{no_slots_no_places}
use Rattle.zone.proofs.zone_laws.no_slots_no_places.Goals as goal

pub returns : goal.returns
returns c = no_slots_no_places
