use Rattle.conformance.proofs.RunLaws.{runs_keep_steps}
use Rattle.conformance.proofs.whole_runs.runs_keep_steps.Goals as goal

pub returns : goal.returns
returns c = runs_keep_steps
