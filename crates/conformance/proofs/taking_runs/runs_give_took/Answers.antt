use Rattle.conformance.proofs.TakingLaws.{runs_give_took}
use Rattle.conformance.proofs.taking_runs.runs_give_took.Goals as goal

pub returns : goal.returns
returns c = runs_give_took
