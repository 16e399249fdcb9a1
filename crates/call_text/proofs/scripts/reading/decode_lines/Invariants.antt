use Rattle.std.proofs.Common.{◌≡◌, take}
use Rattle.std.specs.Prelude.{flat_map}
use Rattle.call_text.specs.Scripts.{line_bytes}
use Rattle.call_text.proofs.scripts.reading.decode_lines.Given as goal

-- the bytes of the lines so far
abbrev pub invariant-loop-line : goal.invariant-loop-line
invariant-loop-line l = l.bytes.items ≡ flat_map line_bytes (take l.line-index l.lines)
