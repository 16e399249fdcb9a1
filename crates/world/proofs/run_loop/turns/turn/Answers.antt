use Rattle.std.proofs.Common.{ap}
use Rattle.std.specs.Prelude.{option_map}
use Rattle.world.proofs.Turning.{call_comes, event_comes}
use Rattle.world.proofs.run_loop.turns.turn.Goals as goal

pub returns-in-Some-clause-course : goal.returns-in-Some-clause-course
returns-in-Some-clause-course g c =
    call_comes c.in_ok-course.course _ _ _ _ _ _ _ _ _ (g.L.Waiting.Arrival.arrived c.in-Some.arrived) (option_map g.L.Waiting.Arrival.arrived c.next_call.result)
    (ap (option_map g.L.Waiting.Arrival.arrived) c.in-Some.is) c.next_call.ensures.hands c.next_call.ensures.runs c.in_ok-course.ensures.runs c.in_ok-course.ensures.course

pub returns-then-has_event-clause-course : goal.returns-then-has_event-clause-course
returns-then-has_event-clause-course g c =
    event_comes _ _ _ _ _ _ _ _ _ (option_map g.L.Waiting.Arrival.arrived c.next_call.result) (ap (option_map g.L.Waiting.Arrival.arrived) c.in_default.is)
    c.next_call.ensures.runs c.in_ok-run_event-2.ensures.runs c.in_ok-run_event-2.ensures.idle c.in_ok-run_event-2.ensures.one
