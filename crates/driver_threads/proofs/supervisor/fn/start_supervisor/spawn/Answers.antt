use Rattle.std.proofs.Common.{rules}
use denote.Param.Send.{IsSend, param_send}
use Rattle.driver_threads.proofs.supervisor.fn.start_supervisor.spawn.Goals as goal

-- src/supervisor.rt:272:31
pub run-requires-send-N : goal.run-requires-send-N
run-requires-send-N g c κs within =
    let crosses : IsSend g.row.N = search (rules, c.requires) parts 8 in
    param_send 0 g.row.N crosses

-- src/supervisor.rt:272:31
pub run-requires-send-D : goal.run-requires-send-D
run-requires-send-D g c κs within =
    let crosses : IsSend g.row.D = search (rules, c.requires) parts 8 in
    param_send 1 g.row.D crosses

-- src/supervisor.rt:272:31
pub run-requires-send-G : goal.run-requires-send-G
run-requires-send-G g c κs within =
    let crosses : IsSend g.row.G = search (rules, c.requires) parts 8 in
    param_send 2 g.row.G crosses
