use Rattle.calls_rename.proofs.Found.{found_is_asked}
use Rattle.calls_rename.proofs.laws.found_is_asked.Goals as goal

pub returns : goal.returns
returns c = found_is_asked
