use Rattle.conformance.proofs.OrderLaws.{runs_keep_order}
use Rattle.conformance.proofs.justified_runs.runs_keep_order.Goals as goal

pub returns : goal.returns
returns c = runs_keep_order
