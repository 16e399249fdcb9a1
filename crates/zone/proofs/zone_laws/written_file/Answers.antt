use Rattle.zone.proofs.Stay.{written_file}
use Rattle.zone.proofs.zone_laws.written_file.Goals as goal

pub returns : goal.returns
returns c = written_file
