use Rattle.block_store.proofs.Rows.{row_old}
use Rattle.block_store.proofs.laws.others_stay.Goals as goal

pub returns : goal.returns
returns c = row_old
