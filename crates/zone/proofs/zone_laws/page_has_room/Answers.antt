use Rattle.zone.proofs.Room.{page_has_room}
use Rattle.zone.proofs.zone_laws.page_has_room.Goals as goal

pub returns : goal.returns
returns c = page_has_room
