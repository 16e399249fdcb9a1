use Rattle.world.specs.ShownTranscript.{transcript_of}
use Rattle.simulation.proofs.Runs.{run_is_shown, run_is_not_shown}
use Rattle.simulation.proofs.simulate.show_run.Goals as goal

pub returns-in-Ok : goal.returns-in-Ok
returns-in-Ok g c = run_is_shown (transcript_of g.D.LocalDriver.state c.args.transcript.now) _ _ _ _ _ c.in-Ok.marks.items c.in-Ok.ensures (rw c.as_slice.ensures.value at c.show.ensures)

pub returns-in-Err : goal.returns-in-Err
returns-in-Err g c = run_is_not_shown (transcript_of g.D.LocalDriver.state c.args.transcript.now) _ _ _ _ c.refuse.ensures.told
