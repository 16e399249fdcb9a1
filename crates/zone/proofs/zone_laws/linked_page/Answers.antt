use Rattle.zone.proofs.Files.{linked_page}
use Rattle.zone.proofs.zone_laws.linked_page.Goals as goal

pub returns : goal.returns
returns c = linked_page
