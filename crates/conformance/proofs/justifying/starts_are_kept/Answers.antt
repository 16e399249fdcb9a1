use Rattle.conformance.proofs.justifying.starts_are_kept.Goals as goal
use Rattle.conformance.proofs.SteadyLaws.{starts_kept}

pub returns : goal.returns
returns c = starts_kept
