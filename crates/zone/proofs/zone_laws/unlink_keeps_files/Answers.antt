use Rattle.zone.proofs.Files.{unlink_keeps_files}
use Rattle.zone.proofs.zone_laws.unlink_keeps_files.Goals as goal

pub returns : goal.returns
returns c = unlink_keeps_files
