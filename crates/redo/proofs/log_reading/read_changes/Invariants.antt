use Rattle.std.proofs.Common.{◌≡◌, ◌+◌, ◌-◌, ◌≤◌, [], ◌++◌, length, drop}
use Rattle.std.specs.List.{zip}
use Rattle.stable.specs.Disk.{Contents}
use Rattle.stable.specs.Runs.{Happens, Knows, ShowsLog}
use Rattle.redo.specs.Record.{changes_in, from, window}
use Rattle.redo.proofs.log_reading.read_changes.Given as goal

abbrev pub invariant-loop-i : goal.invariant-loop-i
invariant-loop-i g l = record {
  few : length l.n-items ≤ l.count;
  same : Happens [] (g.S.Storage.known l.fn.storage) (g.S.Storage.known l.storage);
  left : (log : Contents) → Knows (ShowsLog log) (g.S.Storage.known l.fn.storage)
      → l.changes.items ++ zip (drop l.i l.n-items) (window (from l.at log) (l.first + l.i) (l.count - l.i)) ≡ l.fn.changes.items ++ changes_in (from l.at log) l.count;
}
