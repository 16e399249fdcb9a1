use Rattle.conformance.proofs.RoomLaws.{runs_keep_room}
use Rattle.conformance.proofs.issuing_runs.runs_keep_room.Goals as goal

pub returns : goal.returns
returns c = runs_keep_room
