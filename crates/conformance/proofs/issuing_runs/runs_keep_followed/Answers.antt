use Rattle.conformance.proofs.PlaceLaws.{runs_keep_followed}
use Rattle.conformance.proofs.issuing_runs.runs_keep_followed.Goals as goal

pub returns : goal.returns
returns c = runs_keep_followed
