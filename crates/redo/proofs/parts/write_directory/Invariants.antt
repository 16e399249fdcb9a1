use Rattle.std.proofs.Common.{◌+◌, ◌≤◌, length}
use Rattle.redo.specs.Plans.{directory_writes}
use Rattle.redo.proofs.Left.{Left}
use Rattle.redo.proofs.parts.write_directory.Given as goal

abbrev pub invariant-loop-rest : goal.invariant-loop-rest
invariant-loop-rest g l = record {
  left : Left (directory_writes l.fn.first l.fn.numbers) (g.S.Storage.known l.fn.storage) (g.S.Storage.known l.storage) (directory_writes l.at l.rest);
  room : l.at + length l.rest ≤ l.fn.first + length l.fn.numbers;
}

abbrev pub decreases-loop-rest : goal.decreases-loop-rest
decreases-loop-rest g l = length l.rest
