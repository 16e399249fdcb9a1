use Rattle.block_store.proofs.Alone.{in_zone}
use Rattle.block_store.proofs.regions.zone_alone.Goals as goal

pub returns : goal.returns
returns c = λ g d zone row geometry is. in_zone g geometry d zone row is
