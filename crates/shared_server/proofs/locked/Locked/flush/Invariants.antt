use Rattle.std.proofs.Common.{◌≡◌}
use Rattle.shared_server.proofs.locked.Locked.flush.Given as goal

abbrev pub invariant-loop : goal.invariant-loop
invariant-loop g l = g.L.Recorder.numbers l.self ≡ g.L.Recorder.numbers l.fn.self
