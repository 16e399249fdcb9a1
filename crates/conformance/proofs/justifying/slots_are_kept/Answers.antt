use Rattle.conformance.proofs.SlotLaws.{slots_kept}
use Rattle.conformance.proofs.justifying.slots_are_kept.Goals as goal

pub returns : goal.returns
returns c = slots_kept
