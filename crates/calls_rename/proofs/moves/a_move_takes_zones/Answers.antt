use Rattle.calls_rename.proofs.Zones.{move_takes}
use Rattle.calls_rename.proofs.moves.a_move_takes_zones.Goals as goal

pub returns : goal.returns
returns c = move_takes
