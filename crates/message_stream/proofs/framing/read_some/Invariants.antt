use Rattle.std.proofs.Common.{◌<◌, length}
use Rattle.std.specs.Io.KnownBytes.{Keeps}
use Rattle.message_stream.proofs.framing.read_some.Given as goal

-- nothing was read so far
abbrev pub invariant-loop : goal.invariant-loop
invariant-loop g l = record {
  room : 0 < length l.bytes;
  kept : Keeps (g.I.Read.remaining l.fn.input) (g.I.Read.remaining l.input);
}
