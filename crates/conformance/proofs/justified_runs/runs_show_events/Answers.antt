use Rattle.conformance.proofs.ShownLaws.{runs_show_events}
use Rattle.conformance.proofs.justified_runs.runs_show_events.Goals as goal

pub returns : goal.returns
returns c = runs_show_events
