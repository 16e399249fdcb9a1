use Rattle.redo.proofs.Counting.{costs}
use Rattle.redo.proofs.commits_are_counted.Goals as goal

pub returns : goal.returns
returns c = costs
