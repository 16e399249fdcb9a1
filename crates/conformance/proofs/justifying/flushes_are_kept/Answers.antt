use Rattle.conformance.proofs.justifying.flushes_are_kept.Goals as goal
use Rattle.conformance.proofs.SteadyLaws.{flushes_kept}

pub returns : goal.returns
returns c = flushes_kept
