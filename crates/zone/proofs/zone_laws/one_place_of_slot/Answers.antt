use Rattle.zone.proofs.OnePlaces.{one_place_of_slot}
use Rattle.zone.proofs.zone_laws.one_place_of_slot.Goals as goal

pub returns : goal.returns
returns c = one_place_of_slot
