use Rattle.conformance.proofs.PlaceLaws.{runs_end_followed}
use Rattle.conformance.proofs.issuing_runs.runs_end_followed.Goals as goal

pub returns : goal.returns
returns c = runs_end_followed
