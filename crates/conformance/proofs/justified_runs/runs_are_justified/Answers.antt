use Rattle.conformance.proofs.OpeningLaws.{runs_are_justified}
use Rattle.conformance.proofs.justified_runs.runs_are_justified.Goals as goal

pub returns : goal.returns
returns c = runs_are_justified
