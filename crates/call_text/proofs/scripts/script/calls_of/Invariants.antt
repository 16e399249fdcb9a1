use Rattle.std.proofs.Common.{◌≡◌, ◌≤◌, take, drop, length, map}
use Rattle.std.specs.Prelude.{flat_map, vec_capacity}
use Rattle.call_text.specs.Scripts.{line_bytes, line_call, plain_timed}
use Rattle.call_text.proofs.scripts.script.calls_of.Given as goal

-- the bytes of the lines that are left, and the calls of those so far
abbrev pub invariant-loop-line : goal.invariant-loop-line
invariant-loop-line l = record {
  rest : l.rest ≡ flat_map line_bytes (drop l.line-index l.lines);
  calls : map plain_timed l.calls.items ≡ map line_call (take l.line-index l.lines);
  count : length l.calls.items ≡ l.line-index;
  room : length l.lines ≤ vec_capacity l.calls;
}
