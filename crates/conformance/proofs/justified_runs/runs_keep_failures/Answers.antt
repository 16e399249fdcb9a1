use Rattle.conformance.proofs.FailureLaws.{runs_keep_failures}
use Rattle.conformance.proofs.justified_runs.runs_keep_failures.Goals as goal

pub returns : goal.returns
returns c = runs_keep_failures
