use Rattle.zone.proofs.OnePlaces.{one_place_of_word}
use Rattle.zone.proofs.zone_laws.one_place_of_word.Goals as goal

pub returns : goal.returns
returns c = one_place_of_word
