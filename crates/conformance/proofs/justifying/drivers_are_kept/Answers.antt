use Rattle.conformance.proofs.DriverLaws.{drivers_kept}
use Rattle.conformance.proofs.justifying.drivers_are_kept.Goals as goal

pub returns : goal.returns
returns c = drivers_kept
