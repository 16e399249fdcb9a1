use Rattle.zone.proofs.Files.{unlinked_page}
use Rattle.zone.proofs.zone_laws.unlinked_page.Goals as goal

pub returns : goal.returns
returns c = unlinked_page
