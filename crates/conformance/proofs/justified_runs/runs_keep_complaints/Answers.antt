use Rattle.conformance.proofs.ComplaintLaws.{runs_keep_complaints}
use Rattle.conformance.proofs.justified_runs.runs_keep_complaints.Goals as goal

pub returns : goal.returns
returns c = runs_keep_complaints
