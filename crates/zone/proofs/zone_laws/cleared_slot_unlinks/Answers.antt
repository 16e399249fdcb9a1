use Rattle.zone.proofs.Raw.{cleared_slot_unlinks}
use Rattle.zone.proofs.zone_laws.cleared_slot_unlinks.Goals as goal

pub returns : goal.returns
returns c = cleared_slot_unlinks
