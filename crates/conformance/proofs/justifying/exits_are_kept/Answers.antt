use Rattle.conformance.proofs.ExitLaws.{exits_kept}
use Rattle.conformance.proofs.justifying.exits_are_kept.Goals as goal

pub returns : goal.returns
returns c = exits_kept
