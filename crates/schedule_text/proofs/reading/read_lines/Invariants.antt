use Rattle.std.proofs.Common.{◌<◌, length}
use Rattle.schedule_text.proofs.Events.{SaysSoFar}
use Rattle.schedule_text.proofs.reading.read_lines.Given as goal

-- what the text says is the events so far, before those of the lines that are left; the last line that was read isn't past the last number
abbrev pub invariant-loop-rest : goal.invariant-loop-rest
invariant-loop-rest l = record {
  says : SaysSoFar l.text l.lines.items l.rest;
  few : length l.lines.items < 4294967296;
}

abbrev pub decreases-loop-rest : goal.decreases-loop-rest
decreases-loop-rest l = length l.rest
