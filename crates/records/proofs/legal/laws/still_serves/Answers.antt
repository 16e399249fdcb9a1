use Rattle.records.proofs.Living.{still_serves}
use Rattle.records.proofs.legal.laws.still_serves.Goals as goal

pub returns : goal.returns
returns g c = still_serves g.S.Serve.serving
