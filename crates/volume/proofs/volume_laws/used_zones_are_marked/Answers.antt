use Rattle.volume.proofs.LeavesRoom.{used_zones_are_marked}
use Rattle.volume.proofs.volume_laws.used_zones_are_marked.Goals as goal

pub returns : goal.returns
returns c = used_zones_are_marked
