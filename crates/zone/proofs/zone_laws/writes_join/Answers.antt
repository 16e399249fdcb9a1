use Rattle.zone.proofs.Chunks.{writes_join}
use Rattle.zone.proofs.zone_laws.writes_join.Goals as goal

pub returns : goal.returns
returns c = writes_join
