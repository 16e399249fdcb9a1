use Rattle.conformance.proofs.justifying.hung_are_kept.Goals as goal
use Rattle.conformance.proofs.SteadyLaws.{hung_kept}

pub returns : goal.returns
returns c = hung_kept
