use Rattle.block_store.proofs.Alone.{in_table}
use Rattle.block_store.proofs.regions.table_alone.Goals as goal

pub returns : goal.returns
returns c = λ g d block row geometry low high. in_table g geometry d block row low high
