use Rattle.bitmap.proofs.Counting.{free_found}
use Rattle.bitmap.proofs.laws.free_is_found.Goals as goal

pub returns : goal.returns
returns c = free_found
