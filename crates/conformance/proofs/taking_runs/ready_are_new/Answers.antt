use Rattle.conformance.proofs.NewDrivers.{ready_are_new}
use Rattle.conformance.proofs.taking_runs.ready_are_new.Goals as goal

pub returns : goal.returns
returns c = ready_are_new
