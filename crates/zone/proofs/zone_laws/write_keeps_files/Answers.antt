use Rattle.zone.proofs.Stay.{write_keeps_files}
use Rattle.zone.proofs.zone_laws.write_keeps_files.Goals as goal

pub returns : goal.returns
returns c = write_keeps_files
