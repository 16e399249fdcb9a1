use Rattle.conformance.proofs.AllLaws.{runs_keep_all}
use Rattle.conformance.proofs.justified_runs.runs_keep_all.Goals as goal

pub returns : goal.returns
returns c = runs_keep_all
