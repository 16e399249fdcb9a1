use Rattle.conformance.proofs.AnswerLaws.{answered_kept}
use Rattle.conformance.proofs.justifying.answers_are_kept.Goals as goal

pub returns : goal.returns
returns c = answered_kept
