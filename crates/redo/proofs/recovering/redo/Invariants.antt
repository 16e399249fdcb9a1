use Rattle.std.proofs.Common.{◌≤◌, ◌+◌, ◌*◌, ◌^◌, ◌∷◌, ◌++◌, map}
use Rattle.stable.specs.declared.Which.TheVariants.{Image}
use Rattle.stable.specs.Disk.{Contents, Sync}
use Rattle.stable.specs.Runs.{Knows, ShowsLog}
use Rattle.redo.specs.Record.{closed, most, said_from}
use Rattle.redo.specs.Runs.{singly}
use Rattle.redo.specs.Plans.{run_write, to_gate, to_image}
use Rattle.redo.proofs.Left.{Left}
use Rattle.redo.proofs.recovering.redo.Given as goal

abbrev pub invariant-loop-left : goal.invariant-loop-left
invariant-loop-left g l = record {
  room : l.at + l.left * 2 ^ 33 ≤ 2 ^ 45;
  left : (log : Contents) → Knows (ShowsLog log) (g.S.Storage.known l.fn.storage)
      → Left (to_image (singly (said_from most l.name log 0))) (g.S.Storage.known l.fn.storage) (g.S.Storage.known l.storage)
      (map (run_write Image) (singly (said_from l.left l.name log l.at)) ++ Sync Image ∷ to_gate 0 closed);
  shows : (log : Contents) → Knows (ShowsLog log) (g.S.Storage.known l.fn.storage) → Knows (ShowsLog log) (g.S.Storage.known l.storage);
}

abbrev pub decreases-loop-left : goal.decreases-loop-left
decreases-loop-left g l = l.left
