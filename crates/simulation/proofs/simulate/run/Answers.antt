use Rattle.std.proofs.Common.{inl, inr, refl}
use Rattle.world.specs.ShownTranscript.{transcript_of}
use Rattle.simulation.proofs.simulate.run.Goals as goal

pub returns-in-Ok : goal.returns-in-Ok
returns-in-Ok g c = inl (transcript_of g.D.LocalDriver.state c.in-Ok.transcript, c.in-Ok.ensures.shows, c.show_run.ensures)

pub returns-in-Err : goal.returns-in-Err
returns-in-Err g c = inr (c.in-Err.refusal, c.in-Err.ensures.refused, refl, c.refuse.ensures.told)
