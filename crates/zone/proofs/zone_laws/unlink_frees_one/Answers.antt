use Rattle.zone.proofs.Counts.{unlink_frees_one}
use Rattle.zone.proofs.zone_laws.unlink_frees_one.Goals as goal

pub returns : goal.returns
returns c = unlink_frees_one
