use Rattle.conformance.proofs.WholeLaws.{runs_are_whole}
use Rattle.conformance.proofs.whole_runs.runs_are_whole.Goals as goal

pub returns : goal.returns
returns c = runs_are_whole
