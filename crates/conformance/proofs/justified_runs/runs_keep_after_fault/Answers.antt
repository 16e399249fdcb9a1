use Rattle.conformance.proofs.AfterFaultLaws.{runs_keep_after_fault}
use Rattle.conformance.proofs.justified_runs.runs_keep_after_fault.Goals as goal

pub returns : goal.returns
returns c = runs_keep_after_fault
