use Rattle.std.proofs.Common.{◌+◌, ◌-◌, ◌≤◌, length, map, drop}
use Rattle.std.specs.List.{zip}
use Rattle.stable.specs.declared.Which.TheVariants.{Image}
use Rattle.stable.specs.Disk.{Contents}
use Rattle.stable.specs.Runs.{Knows, ShowsLog}
use Rattle.redo.specs.Record.{changes_in, from, window}
use Rattle.redo.specs.Runs.{singly}
use Rattle.redo.specs.Plans.{run_write}
use Rattle.redo.proofs.Left.{Left}
use Rattle.redo.proofs.recovering.redo_changes.Given as goal

abbrev pub invariant-loop-i : goal.invariant-loop-i
invariant-loop-i g l = record {
  few : length l.n-items ≤ l.count;
  left : (log : Contents) → Knows (ShowsLog log) (g.S.Storage.known l.fn.storage)
      → Left (map (run_write Image) (singly (changes_in (from l.at log) l.count))) (g.S.Storage.known l.fn.storage) (g.S.Storage.known l.storage)
      (map (run_write Image) (singly (zip (drop l.i l.n-items) (window (from l.at log) (l.first + l.i) (l.count - l.i)))));
  shows : (log : Contents) → Knows (ShowsLog log) (g.S.Storage.known l.fn.storage) → Knows (ShowsLog log) (g.S.Storage.known l.storage);
}
