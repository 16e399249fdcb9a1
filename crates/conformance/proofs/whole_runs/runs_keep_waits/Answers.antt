use Rattle.conformance.proofs.LeavingLaws.{runs_keep_waits}
use Rattle.conformance.proofs.whole_runs.runs_keep_waits.Goals as goal

pub returns : goal.returns
returns c = runs_keep_waits
