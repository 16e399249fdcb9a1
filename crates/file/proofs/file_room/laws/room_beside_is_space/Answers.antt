use Rattle.file.proofs.RoomSpaces.{room_beside_is_space}
use Rattle.file.proofs.file_room.laws.room_beside_is_space.Goals as goal

pub returns : goal.returns
returns c = room_beside_is_space
