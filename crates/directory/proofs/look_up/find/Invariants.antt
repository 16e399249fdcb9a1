use Rattle.std.proofs.Common.{◌≤◌, ◌*◌}
use Rattle.block_store.specs.World.{Reads}
use Rattle.directory.proofs.Turning.{IsLeft}
use Rattle.directory.proofs.look_up.find.Given as goal

abbrev pub invariant-loop-left : goal.invariant-loop-left
invariant-loop-left g l = record {
  reads : Reads g.B.Blocks.world l.fn.blocks l.blocks (IsLeft l.geometry l.inode l.name l.left);
  size : 64 * l.left ≤ l.inode.size;
}

abbrev pub decreases-loop-left : goal.decreases-loop-left
decreases-loop-left g l = l.left
