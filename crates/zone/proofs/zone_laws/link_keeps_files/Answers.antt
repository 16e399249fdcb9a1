use Rattle.zone.proofs.Files.{link_keeps_files}
use Rattle.zone.proofs.zone_laws.link_keeps_files.Goals as goal

pub returns : goal.returns
returns c = link_keeps_files
