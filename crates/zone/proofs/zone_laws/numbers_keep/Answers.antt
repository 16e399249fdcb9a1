use Rattle.zone.proofs.Stay.{numbers_keep}
use Rattle.zone.proofs.zone_laws.numbers_keep.Goals as goal

pub returns : goal.returns
returns c = numbers_keep
