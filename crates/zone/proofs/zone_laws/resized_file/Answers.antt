use Rattle.zone.proofs.Stay.{resized_file}
use Rattle.zone.proofs.zone_laws.resized_file.Goals as goal

pub returns : goal.returns
returns c = resized_file
