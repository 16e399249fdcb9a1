use Rattle.world.proofs.RunShowing.{runs_are_shown}
use Rattle.world.proofs.run_shown.runs_are_shown.Goals as goal

pub returns : goal.returns
returns c = runs_are_shown
