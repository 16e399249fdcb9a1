use Rattle.conformance.proofs.TakingLaws.{took_kept}
use Rattle.conformance.proofs.taking_runs.took_is_kept.Goals as goal

pub returns : goal.returns
returns c = took_kept
