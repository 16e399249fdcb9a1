use Rattle.std.proofs.Common.{◌≤◌, ◌-◌, length}
use Rattle.block_store.specs.World.{Turns}
use Rattle.file.proofs.SoFar.{SoFar}
use Rattle.file.proofs.changing.write_chunks.Given as goal

abbrev pub invariant-loop-done : goal.invariant-loop-done
invariant-loop-done g l = record {
  turns : Turns g.B.Blocks.world l.fn.blocks l.blocks (λ d e. SoFar l.geometry l.number l.at l.bytes l.done d e);
  done : l.done ≤ length l.bytes;
}

abbrev pub decreases-loop-done : goal.decreases-loop-done
decreases-loop-done g l = length l.bytes - l.done
