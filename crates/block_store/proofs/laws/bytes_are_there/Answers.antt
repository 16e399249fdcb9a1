use Rattle.block_store.proofs.Rows.{bytes_are_there}
use Rattle.block_store.proofs.laws.bytes_are_there.Goals as goal

pub returns : goal.returns
returns c = bytes_are_there
