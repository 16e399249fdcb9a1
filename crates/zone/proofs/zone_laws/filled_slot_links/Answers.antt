use Rattle.zone.proofs.Raw.{filled_slot_links}
use Rattle.zone.proofs.zone_laws.filled_slot_links.Goals as goal

pub returns : goal.returns
returns c = filled_slot_links
