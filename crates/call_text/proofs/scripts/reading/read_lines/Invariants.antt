use Rattle.std.proofs.Common.{length, Some}
use Rattle.call_text.proofs.ScriptLines.{SaysSoFar}
use Rattle.call_text.proofs.scripts.reading.read_lines.Given as goal

-- what the text says is the user and the calls so far, before those of the lines that are left
abbrev pub invariant-loop-rest : goal.invariant-loop-rest
invariant-loop-rest l = SaysSoFar l.text (Some (l.uid, l.gid)) l.lines.items l.rest

abbrev pub decreases-loop-rest : goal.decreases-loop-rest
decreases-loop-rest l = length l.rest
