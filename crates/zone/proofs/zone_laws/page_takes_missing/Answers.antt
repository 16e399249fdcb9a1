use Rattle.zone.proofs.Missing.{page_takes_missing}
use Rattle.zone.proofs.zone_laws.page_takes_missing.Goals as goal

pub returns : goal.returns
returns c = page_takes_missing
