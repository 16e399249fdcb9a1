use Rattle.block_store.proofs.Rows.{number_written}
use Rattle.block_store.proofs.laws.number_is_read.Goals as goal

pub returns : goal.returns
returns c = number_written
