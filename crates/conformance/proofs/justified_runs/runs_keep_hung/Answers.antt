use Rattle.conformance.proofs.SteadyLaws.{hung_kept}
use Rattle.conformance.proofs.SaidLaws.{runs_said}
use Rattle.conformance.proofs.justified_runs.runs_keep_hung.Goals as goal

pub returns : goal.returns
returns c drivers area b a runs calm begun h = runs_said _ (hung_kept drivers) area b a runs calm begun h
