use Rattle.conformance.proofs.TimesLaws.{gives_up_kept}
use Rattle.conformance.proofs.justifying.giving_up_is_kept.Goals as goal

pub returns : goal.returns
returns c = gives_up_kept
