use Rattle.zone.proofs.Counts.{link_marks_one}
use Rattle.zone.proofs.zone_laws.link_marks_one.Goals as goal

pub returns : goal.returns
returns c = link_marks_one
