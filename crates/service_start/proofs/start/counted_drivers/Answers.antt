use Rattle.service_start.proofs.start.counted_drivers.Goals as goal

pub returns-in-Ok-clause-truth : goal.returns-in-Ok-clause-truth
returns-in-Ok-clause-truth g c v = c.in-Ok.ensures.truth v (c.in_ok-link.ensures.truth v)
