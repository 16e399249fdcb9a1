use Rattle.zone.proofs.Counts.{marked_as_needed}
use Rattle.zone.proofs.zone_laws.marked_as_needed.Goals as goal

pub returns : goal.returns
returns c = marked_as_needed
