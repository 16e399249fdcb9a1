use Rattle.block_store.proofs.Alone.{in_zone_map}
use Rattle.block_store.proofs.regions.zone_map_alone.Goals as goal

pub returns : goal.returns
returns c = λ g d block row geometry low high. in_zone_map g geometry d block row low high
