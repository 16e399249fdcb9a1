use Rattle.vfs.specs.Server.{IsOpen}
use Rattle.tests_server.proofs.unmounts.first_other.Given as goal

abbrev pub invariant-loop-step : goal.invariant-loop-step
invariant-loop-step g l = IsOpen g.B.Caches.caching l.server
