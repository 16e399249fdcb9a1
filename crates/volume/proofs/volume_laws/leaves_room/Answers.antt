use Rattle.volume.proofs.LeavesRoom.{held_leaves_room, image_leaves_room}
use Rattle.volume.proofs.volume_laws.leaves_room.Goals as goal

pub returns-clause-volume : goal.returns-clause-volume
returns-clause-volume c = held_leaves_room

pub returns-clause-image : goal.returns-clause-image
returns-clause-image c = image_leaves_room
