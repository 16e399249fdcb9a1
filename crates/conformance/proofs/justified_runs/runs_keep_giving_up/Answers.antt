use Rattle.conformance.proofs.TimesLaws.{gives_up_kept}
use Rattle.conformance.proofs.SaidLaws.{runs_said}
use Rattle.conformance.proofs.justified_runs.runs_keep_giving_up.Goals as goal

pub returns : goal.returns
returns c drivers area b a runs calm begun h = runs_said _ (gives_up_kept drivers) area b a runs calm begun h
