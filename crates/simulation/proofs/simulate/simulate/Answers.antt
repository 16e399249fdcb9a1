use Rattle.std.proofs.Common.{inr, refl}
use Rattle.simulation.proofs.simulate.simulate.Goals as goal

pub returns-in-Err : goal.returns-in-Err
returns-in-Err g c = inr (c.in-Err.refusal, c.in-Err.ensures.err, refl, c.refuse.ensures.told)
