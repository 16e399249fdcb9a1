use Rattle.std.proofs.Common.{◌≡◌, ◌≤◌, ◌+◌, ◌*◌, ◌^◌, ◌++◌, []}
use Rattle.stable.specs.Disk.{Contents}
use Rattle.stable.specs.Runs.{Happens, Knows, ShowsLog}
use Rattle.redo.specs.Record.{most, said_from}
use Rattle.redo.proofs.log_reading.read_all.Given as goal

abbrev pub invariant-loop-left : goal.invariant-loop-left
invariant-loop-left g l = record {
  room : l.at + l.left * 2 ^ 33 ≤ 2 ^ 45;
  same : Happens [] (g.S.Storage.known l.fn.storage) (g.S.Storage.known l.storage);
  all : (log : Contents) → Knows (ShowsLog log) (g.S.Storage.known l.fn.storage) → l.changes.items ++ said_from l.left l.name log l.at ≡ said_from most l.name log 0;
}

abbrev pub decreases-loop-left : goal.decreases-loop-left
decreases-loop-left g l = l.left
