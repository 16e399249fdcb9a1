use Rattle.shared_media.proofs.Sequences.{agrees_on}
use Rattle.shared_media.proofs.laws.agreement_stays.Goals as goal

pub returns : goal.returns
returns c = agrees_on
