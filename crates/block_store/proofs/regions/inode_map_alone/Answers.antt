use Rattle.block_store.proofs.Alone.{in_inode_map}
use Rattle.block_store.proofs.regions.inode_map_alone.Goals as goal

pub returns : goal.returns
returns c = λ g d block row geometry low high. in_inode_map g geometry d block row low high
