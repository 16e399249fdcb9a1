-- What was read as a script.
use Rattle.std.specs.Prelude.{ℕ, List, map}
use Rattle.call_text.specs.declared.scripts.script.Script.{Script}
use Rattle.call_text.specs.declared.scripts.timed.TimedCall.{TimedCall}
use Rattle.call_text.specs.Scripts.{line_call}

-- its user and group, and its calls
abbrev pub said : Script → ℕ × ℕ × List TimedCall
said script = (script.uid, script.gid, map line_call script.lines.items)
