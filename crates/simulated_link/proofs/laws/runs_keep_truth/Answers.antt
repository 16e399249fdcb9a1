use Rattle.simulated_link.proofs.Holding.{runs_keep_truth}
use Rattle.simulated_link.proofs.laws.runs_keep_truth.Goals as goal

pub returns : goal.returns
returns c = runs_keep_truth
