use Rattle.volume.proofs.FreshHolds.{fresh_holds}
use Rattle.volume.proofs.fresh_holds.Goals as goal

pub returns : goal.returns
returns c = fresh_holds
