use Rattle.conformance.proofs.ActLaws.{runs_keep_acts}
use Rattle.conformance.proofs.whole_runs.runs_keep_acts.Goals as goal

pub returns : goal.returns
returns c = runs_keep_acts
