use Rattle.tests_sessions.proofs.ended.ask_and_stop.Goals as goal

pub over-requires-clause-truth : goal.over-requires-clause-truth
over-requires-clause-truth g c κs lives = c.in_ok-noting.ensures.truth g.N.ServiceParameters.opening tt
