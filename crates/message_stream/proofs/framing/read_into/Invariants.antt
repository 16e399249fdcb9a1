use Rattle.std.proofs.Common.{◌≤◌, ◌-◌, length, take}
use Rattle.std.specs.Io.KnownBytes.{Consumes}
use Rattle.message_stream.proofs.framing.read_into.Given as goal

-- so many bytes were read so far
abbrev pub invariant-loop-at : goal.invariant-loop-at
invariant-loop-at g l = record {
  most : l.at ≤ length l.bytes;
  taken : Consumes (g.I.Read.remaining l.fn.input) (g.I.Read.remaining l.input) (take l.at l.bytes);
}

abbrev pub decreases-loop-at : goal.decreases-loop-at
decreases-loop-at g l = length l.bytes - l.at
