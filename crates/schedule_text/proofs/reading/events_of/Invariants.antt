use Rattle.std.proofs.Common.{◌≡◌, take, drop, map}
use Rattle.std.specs.Prelude.{flat_map}
use Rattle.schedule_text.specs.Events.{line_bytes, line_event, plain_event}
use Rattle.schedule_text.proofs.reading.events_of.Given as goal

-- the bytes of the lines that are left, and the events of those so far
abbrev pub invariant-loop-line : goal.invariant-loop-line
invariant-loop-line l = record {
  rest : l.rest ≡ flat_map line_bytes (drop l.line-index l.lines);
  events : map plain_event l.events.items ≡ map line_event (take l.line-index l.lines);
}
