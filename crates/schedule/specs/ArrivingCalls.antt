-- The call that an event of a schedule brings.
use Rattle.std.specs.Prelude.{List, [], ◌∷◌}
use Rattle.schedule.specs.declared.Event.{Event}
use Rattle.schedule.specs.declared.Event.TheVariants as event
use Rattle.schedule.specs.declared.arrived.Arrived.{Arrived}

abbrev pub calls_of : Event → List Arrived
calls_of (event.Arrive who now call) = record { who = who; now = now; call = call } ∷ []
calls_of event.Flush = []
calls_of event.Tick = []
calls_of (event.Step g) = []
calls_of (event.Die g bytes) = []
calls_of (event.Hang g) = []
calls_of (event.Deliver n) = []
calls_of (event.Repeat n) = []
