use Rattle.conformance.proofs.TakingLaws.{runs_keep_took}
use Rattle.conformance.proofs.taking_runs.runs_keep_took.Goals as goal

pub returns : goal.returns
returns c = runs_keep_took
