use Rattle.conformance.proofs.AnswerLaws.{answered_kept}
use Rattle.conformance.proofs.SaidLaws.{runs_said}
use Rattle.conformance.proofs.justified_runs.runs_keep_answers.Goals as goal

pub returns : goal.returns
returns c area b a runs calm begun h = runs_said _ answered_kept area b a runs calm begun h
