use Rattle.std.proofs.Common.{◌≤◌, ◌+◌}
use Rattle.simulated_link.specs.StateView.{work_left}
use Rattle.simulated_link.specs.Moments.{Resting}
use Rattle.world.specs.Runs.{RunsOn, IsIdle}
use Rattle.world.proofs.run_loop.turns.turns.Given as goal

abbrev pub invariant-loop : goal.invariant-loop
invariant-loop g l = record {
  ready : g.S.FileServer.is_ready l.server;
  few : g.S.FileServer.absorbed l.server + work_left (g.L.Ran.run (g.S.FileServer.line l.server))
      ≤ g.S.FileServer.absorbed l.fn.server + work_left (g.L.Ran.run (g.S.FileServer.line l.fn.server));
  runs : RunsOn (g.S.Serve.serving l.fn.server) (g.S.Serve.serving l.server) (g.L.Link.truth (g.S.FileServer.line l.fn.server))
      (g.L.Link.truth (g.S.FileServer.line l.server)) (g.L.Ran.run (g.S.FileServer.line l.fn.server))
      (g.L.Ran.run (g.S.FileServer.line l.server)) Resting Resting;
  idle : IsIdle (g.S.Serve.serving l.server) (g.L.Ran.run (g.S.FileServer.line l.server));
}

abbrev pub decreases-loop : goal.decreases-loop
decreases-loop g l = work_left (g.L.Ran.run (g.S.FileServer.line l.server))
