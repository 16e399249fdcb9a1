use Rattle.zone.proofs.Stay.{places_stay}
use Rattle.zone.proofs.zone_laws.places_stay.Goals as goal

pub returns : goal.returns
returns c = places_stay
