use Rattle.bitmap.proofs.Counting.{free_taken}
use Rattle.bitmap.proofs.laws.free_and_taken.Goals as goal

pub returns : goal.returns
returns c = free_taken
