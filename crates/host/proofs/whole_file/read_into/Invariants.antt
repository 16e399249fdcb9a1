use Rattle.std.proofs.Common.{◌≤◌, length}
use Rattle.host.proofs.whole_file.read_into.Given as goal

-- what was read lies in the room
abbrev pub invariant-loop : goal.invariant-loop
invariant-loop g l = l.filled ≤ length l.room
